-- A packet of zeros, and green's details laid into one: document 01's recovery of group 4. Assumes nothing.
use Rattle.std.proofs.Common.{◌≡◌, refl, sym, ap, ◌∙◌, Bool, false, List, ℕ, ◌+◌, ◌*◌, ◌/◌, arith, ℤ, pos, length}
use Rattle.lists.specs.Lists.{tab, part, laid}
use Rattle.lists.proofs.Laid.{laid_same}
use Rattle.format.specs.Lifting.{Plane}
use Rattle.format.specs.Sizes.{Colour, green, Group, final, columns, plane_rows}
use Rattle.format.specs.Table.{Source, S, chosen}
use Rattle.format.specs.Coefficients.{zeros}
use Rattle.format.specs.Recovery.{read_plane, d_of, seek, picked_back}
use Rattle.format.specs.Numbers.{packet_rows}
use Rattle.format.proofs.NumberLaws.{place_of, line_back, laid-seek, row-alone, flat-zeros}
use Rattle.format.proofs.TableLaws.{chosen-in}
use Rattle.passes.specs.declared.Plan.{Plan}
use Rattle.levels.specs.Block.{group_at}
use Rattle.returning.specs.Return.{Held, packet_size, Numbers}
use Rattle.returning.proofs.PacketLaws.{packet-flat, packet-room}

-- no coefficients
abbrev pub nothing : ℕ → Plane
nothing c r x = pos 0

pub numbers-none : (z : Plan) (place : ℕ) (g : Group) (work : List ℤ) → part work (group_at z place g) (packet_size z g) ≡ zeros (packet_size z g) → Numbers z place g nothing work
numbers-none z place g work e = e ∙ flat-zeros (columns z.w g) (packet_rows g (z.n + 1)) ∙ sym (packet-flat z.w g (z.n + 1) nothing)

-- rows of details laid at the rows that the final green uses, in group 4's packet
pub details-numbers : (z : Plan) (place : ℕ) (work : List ℤ) → Held z place (length work) → (p : Plane) (rest : ℕ → Plane) → Numbers z place final rest work
    → Numbers z place final (λ c r x. seek false (λ y. S 0 (chosen z.guarded y)) p c r x (plane_rows z.guarded z.n) (rest c r x))
    (laid (λ y. place + chosen z.guarded y * (z.w / 2)) (λ y. tab (z.w / 2) (p y)) work (plane_rows z.guarded z.n))
details-numbers z place work held p rest e =
    let g = z.guarded in
    let c = z.w / 2 in
    let h = packet_rows final (z.n + 1) in
    let first = group_at z place final in
    let src : ℕ → Source = λ y. S 0 (chosen g y) in
    let room = packet-room z place (length work) held final in
    let same = laid_same (λ y. place + chosen g y * c) (place_of final c h first false src p rest work room) _ (line_back final c h first false src p rest work room) work (plane_rows g z.n)
    (λ y _. rw (row-alone final (chosen g y) refl) (omega arith)) (λ y _. refl) in
    ap (λ (m : List ℤ). part m first (packet_size z final)) same
    ∙ laid-seek final c h first false src p rest work room (plane_rows g z.n) (λ y _. omega arith)
    (λ y b. omega (arith, row-alone final (chosen g y) refl, chosen-in g z.n held.fits.0.tall y b))
    (e ∙ packet-flat z.w final (z.n + 1) rest)
    ∙ sym (packet-flat z.w final (z.n + 1) _)

-- those of a plane over nothing are its recovery
pub details-picked : (g : Bool) (n w : ℕ) (p : Colour → List ℤ)
    → (λ (c r x : ℕ). seek false (λ y. S 0 (chosen g y)) (d_of (plane_rows g n) (read_plane w (p green))) c r x (plane_rows g n) (pos 0)) ≡ picked_back g n w p green
unfolding picked_back
details-picked g n w p = refl
