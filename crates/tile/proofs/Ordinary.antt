-- No wrap in ordinary frames, in terms of `decode_stream`: what it left of a stream whose selectors are all 4 at most. Assumes nothing.
use Rattle.std.proofs.Common.{◌≡◌, sym, ap, ◌∙◌, subst, List, map, ℕ, ◌<◌, ℤ, nat_abs}
use Rattle.wrap32.specs.Arithmetic.{wrapping, whole, number, checked}
use Rattle.lists.specs.Lists.{Each}
use Rattle.format.specs.Sizes.{Colour}
use Rattle.format.specs.Strip.{width, coded_height}
use Rattle.format.specs.Refusals.{Admitted}
use Rattle.format.specs.Coefficients.{coefs}
use Rattle.format.specs.Synthesis.{planes}
use Rattle.format.specs.Ordinary.{OrdinarySelectors, filtered_planes}
use Rattle.format.proofs.Ordinary.{planes-are-whole, none-leaves, planes-are-filtered, planes-are-small}
use Rattle.tile.specs.Decode.{TileOutcome, planes_left}
use Rattle.format.specs.Tile.{Answer, slice}
use Rattle.tile.proofs.Lossless.{admitted, left_is, size_is}

module _ (s : List ℕ) (full red blue work : List ℤ) (r : Answer) (full' red' blue' work' : List ℤ) (o : TileOutcome s full red blue work r full' red' blue' work') (ok : r.refusal ≡ 0) (low : OrdinarySelectors s) where
  a : Admitted s
  a = admitted s full red blue work r full' red' blue' work' o ok

  left : (i : Colour) → planes_left r (slice full' red' blue') i ≡ planes wrapping (width s) (coded_height s) (coefs s) i
  left = left_is s full red blue work r full' red' blue' work' o ok

  size : (r.width ≡ width s) × (r.height ≡ coded_height s)
  size = size_is s full red blue work r full' red' blue' work' o ok

  -- the planes left are those of whole numbers
  pub left-are-whole : (i : Colour) → planes_left r (slice full' red' blue') i ≡ planes whole r.width r.height (coefs s) i
  left-are-whole i = left i ∙ planes-are-whole s a low i ∙ (λ j. planes whole (sym size.0 j) (sym size.1 j) (coefs s) i)

  -- no sum, doubling or shift left signed 32 bits
  pub none_left : (i : Colour) → planes checked r.width r.height (coefs s) i ≡ map number (planes_left r (slice full' red' blue') i)
  none_left i = (λ j. planes checked (size.0 j) (size.1 j) (coefs s) i) ∙ none-leaves s a low i ∙ ap (map number) (sym (left i))

  -- they are those of T.800's filter
  pub left-are-filtered : (i : Colour) → planes_left r (slice full' red' blue') i ≡ filtered_planes r.width r.height (coefs s) i
  left-are-filtered i = left i ∙ planes-are-filtered s a low i ∙ (λ j. filtered_planes (sym size.0 j) (sym size.1 j) (coefs s) i)

  -- every number left in the three planes lies strictly between -536,870,912 and 536,870,912
  pub left-are-small : (i : Colour) → Each (λ z. nat_abs z < 536870912) (planes_left r (slice full' red' blue') i)
  left-are-small i = subst (Each (λ z. nat_abs z < 536870912)) (sym (left i)) (planes-are-small s a low i)
