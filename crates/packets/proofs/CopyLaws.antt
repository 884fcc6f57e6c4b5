-- Laws of copies: what is checked goes by its stream, what is accepted by that and its lengths. Assumes nothing.
use Rattle.std.proofs.Common.{◌≡◌, Ok}
use Rattle.std.proofs.Props.{props}
use mathlib.Core.HLevel.{is_prop→PathP}
use Rattle.format.specs.Used.{stream_refusal}
use Rattle.format.specs.Tile.{lengths_of}
use Rattle.packets.specs.Answers.{told}
use Rattle.packets.specs.declared.Checked.{Checked}
use Rattle.packets.specs.declared.Accepted.{Accepted}

-- two of one stream are the same
pub checked_same : (a b : Checked) → a.stream ≡ b.stream → a ≡ b
checked_same a b e = λ i. record { stream = e i; passed = is_prop→PathP (λ j. stream_refusal (e j) ≡ 0) (λ j. hlevel props) a.passed b.passed i }

-- two of one stream that need the same are the same
pub accepted_same : (a b : Accepted) → a.checked ≡ b.checked → a.need ≡ b.need → a ≡ b
accepted_same a b e f = λ i. record { checked = e i; need = f i; needed = is_prop→PathP (λ j. told (Ok (f j)) ≡ lengths_of (e j).stream) (λ j. hlevel props) a.needed b.needed i }
