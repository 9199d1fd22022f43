-- `line::line_in` meets its contract: at each return the tests before it tell which fault is the first, if any. Assumes nothing.
use Rattle.std.proofs.Common.{sym, ◌∙◌}
use borrow.Author.Tests.{lt-ltb, le-ltb, eq-eqb, ne_eqb}
use Rattle.line.specs.Line.{out_of_range}
use Rattle.line.proofs.Parts.{limit_is, limit-out, come_to, line-said, line-malformed, both-set}
use Rattle.line.proofs.line_in.Goals as goal

pub returns-in_default : goal.returns-in_default
returns-in_default c = sym (line-malformed c.args.firm c.args.line.now c.in_default.ensures)

pub returns-then-said-firm : goal.returns-then-said-firm
unfolding come_to
returns-then-said-firm c = rw (line-said c.args.firm c.in-Some.ensures, ne_eqb _ _ c.if-said-firm.true)

pub returns-in_default-limit : goal.returns-in_default-limit
unfolding come_to out_of_range
returns-in_default-limit c =
    let limit = limit-out _ _ (sym c.limit.ensures ∙ c.in_default-limit.is) in
    rw (line-said c.args.firm c.in-Some.ensures, eq-eqb _ _ c.if-said-firm.false, limit)

pub returns-then-said-gt-WINDOW_MOST : goal.returns-then-said-gt-WINDOW_MOST
unfolding come_to out_of_range
returns-then-said-gt-WINDOW_MOST c =
    let limit = limit_is _ _ (sym c.limit.ensures ∙ c.in-Some-limit.is) in
    rw (
      line-said c.args.firm c.in-Some.ensures,
      eq-eqb _ _ c.if-said-firm.false,
      limit.0,
      lt-ltb _ _ c.if-said-gt-WINDOW_MOST.true,
    )

pub returns-then-level_clash : goal.returns-then-level_clash
unfolding come_to out_of_range
returns-then-level_clash c =
    let limit = limit_is _ _ (sym c.limit.ensures ∙ c.in-Some-limit.is) in
    rw (
      line-said c.args.firm c.in-Some.ensures,
      eq-eqb _ _ c.if-said-firm.false,
      limit.0,
      le-ltb _ _ c.if-said-gt-WINDOW_MOST.false,
      sym c.level_clash.ensures ∙ c.if-level_clash.true,
    )

pub returns-then-unit_clash : goal.returns-then-unit_clash
unfolding come_to out_of_range
returns-then-unit_clash c =
    let limit = limit_is _ _ (sym c.limit.ensures ∙ c.in-Some-limit.is) in
    rw (
      line-said c.args.firm c.in-Some.ensures,
      eq-eqb _ _ c.if-said-firm.false,
      limit.0,
      le-ltb _ _ c.if-said-gt-WINDOW_MOST.false,
      sym c.level_clash.ensures ∙ c.if-level_clash.false,
      sym c.unit_clash.ensures ∙ c.if-unit_clash.true,
    )

pub scope_of-requires : goal.scope_of-requires
scope_of-requires c = both-set _ _ _ (sym c.unit_clash.ensures ∙ c.if-unit_clash.false)

pub returns : goal.returns
unfolding come_to out_of_range
returns c =
    let limit = limit_is _ _ (sym c.limit.ensures ∙ c.in-Some-limit.is) in
    rw (
      line-said c.args.firm c.in-Some.ensures,
      eq-eqb _ _ c.if-said-firm.false,
      limit.0,
      le-ltb _ _ c.if-said-gt-WINDOW_MOST.false,
      sym c.level_clash.ensures ∙ c.if-level_clash.false,
      sym c.unit_clash.ensures ∙ c.if-unit_clash.false,
      ← c.scope_of.ensures,
      ← c.kind.ensures,
      limit.1,
    )
