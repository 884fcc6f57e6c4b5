-- `decode_component` meets its contract: what the row took is what is no longer left. Assumes nothing.
use Rattle.std.proofs.Common.{ap, ◌∙◌, ◌-◌}
use Rattle.format.specs.Reader.{Reader}
use Rattle.format.specs.Used.{row_used}
use Rattle.rows.proofs.decode_component.Goals as goal

pub returns : goal.returns
unfolding row_used
returns c =
    let d = c.decode_row-after in
    let left = c.args.reader.remaining in
    record {
      bits = c.saturating_sub.ensures ∙ ap (λ (r : Reader). left - r.remaining) d.ensures.value;
      reader_after = d.ensures.value;
      dst_after = d.ensures.dst_after;
      still_ready = d.ensures.still_ready;
    }
