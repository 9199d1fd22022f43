-- `records::form::put` meets its contract: fields that are an event's fit their widths. Assumes nothing.
use Rattle.std.proofs.Common.{ℕ, List, subst, sym, ◌∙◌}
use Rattle.bits.specs.Fields.{Fit}
use Rattle.records.proofs.Round.{stands-fit}
use Rattle.records.proofs.form.put.Goals as goal

pub write_fields-requires-clause-fit : goal.write_fields-requires-clause-fit
write_fields-requires-clause-fit g c =
    let v = c.args.v.now in
    let h = c.requires.held in
    subst (λ (w : List ℕ). Fit w v) (h.wide ∙ sym c.WIDTHS.ensures) (stands-fit g.E.Form.form h.lawful v c.requires.stands)
