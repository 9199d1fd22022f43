-- `line::fields::read` meets its contract: each field is read behind the one before it, and one that is malformed ends the reading. Assumes nothing.
use Rattle.std.proofs.Common.{ℕ, ◌≡◌, List, Option, Some, is_some, unwrap_or, length, sym, ap, refl, ◌∙◌, arith, length-drop}
use borrow.Author.Tests.{eqb-true, eqb-false, leb-true, le-leb}
use Rattle.text.specs.Text.{fields, field, name_of, field_number, bytes}
use Rattle.laws.specs.Lists.{same}
use Rattle.line.specs.Line.{type_of, is_absolute, time_of, letter_of, type_field}
use Rattle.line.specs.Inner.Parts.{chosen, side_number, month_number}
use Rattle.line.specs.declared.fields.Side.TheVariants.{Call, Put}
use Rattle.line.specs.declared.fields.Month.TheVariants.{Front, Trailing}
use Rattle.line.specs.declared.LimitType.{LimitType}
use Rattle.line.specs.declared.LimitType.TheVariants.{RateNtnl}
use Rattle.line.proofs.Parts.{is-well, faulty, there-four, none-some, chosen-none, chosen-some, digits-number, next-is, next-left}
use Rattle.line.proofs.fields.read.Goals as goal

pub returns-in_err-firm : goal.returns-in_err-firm
returns-in_err-firm c =
    let line = c.args.line.now in
    let p0 = c.of-fields.ensures in
    rw c.from_residual.ensures (faulty line (λ w. none-some (c.in_err-firm.ensures.value ∙ ap (name_of 1 4) (next-is line 0 p0)) w.firm))

pub returns-in_err-named : goal.returns-in_err-named
returns-in_err-named c =
    let line = c.args.line.now in
    let p0 = c.of-fields.ensures in
    let p1 = next-left line 0 p0 c.in_ok-firm.ensures.left in
    rw c.from_residual-in_err-named.ensures (faulty line (λ w. none-some (c.in_err-named.ensures.value ∙ ap type_of (next-is line 1 p1)) w.named))

pub returns-in_err-root : goal.returns-in_err-root
returns-in_err-root c =
    let line = c.args.line.now in
    let p0 = c.of-fields.ensures in
    let p1 = next-left line 0 p0 c.in_ok-firm.ensures.left in
    let p2 = next-left line 1 p1 c.in_ok-named.ensures.left in
    rw c.from_residual-in_err-root.ensures (faulty line (λ w. none-some (c.in_err-root.ensures.value ∙ ap (name_of 0 6) (next-is line 2 p2)) w.root))

pub returns-in_err-limit : goal.returns-in_err-limit
returns-in_err-limit c =
    let line = c.args.line.now in
    let p0 = c.of-fields.ensures in
    let p1 = next-left line 0 p0 c.in_ok-firm.ensures.left in
    let p2 = next-left line 1 p1 c.in_ok-named.ensures.left in
    let p3 = next-left line 2 p2 c.in_ok-root.ensures.left in
    rw c.from_residual-in_err-limit.ensures (faulty line (λ w. none-some (c.in_err-limit.ensures.value ∙ digits-number _ ∙ ap field_number (next-is line 3 p3)) w.limit))

pub returns-in_err-time : goal.returns-in_err-time
returns-in_err-time c =
    let line = c.args.line.now in
    let p0 = c.of-fields.ensures in
    let p1 = next-left line 0 p0 c.in_ok-firm.ensures.left in
    let p2 = next-left line 1 p1 c.in_ok-named.ensures.left in
    let p3 = next-left line 2 p2 c.in_ok-root.ensures.left in
    let p4 = next-left line 3 p3 c.in_ok-limit.ensures.left in
    let type = c.in_ok-named.ensures.value ∙ ap type_of (next-is line 1 p1) in
    let typed : c.is_absolute.result ≡ is_absolute (unwrap_or (type_field line) RateNtnl) = c.is_absolute.ensures ∙ ap (λ (o : Option LimitType). is_absolute (unwrap_or o RateNtnl)) type in
    rw c.from_residual-in_err-time.ensures (faulty line (λ w. none-some (c.in_err-time.ensures.value ∙ rw typed (ap (time_of _) (next-is line 4 p4))) w.time))

pub returns-in_err-call : goal.returns-in_err-call
returns-in_err-call c =
    let line = c.args.line.now in
    let p0 = c.of-fields.ensures in
    let p1 = next-left line 0 p0 c.in_ok-firm.ensures.left in
    let p2 = next-left line 1 p1 c.in_ok-named.ensures.left in
    let p3 = next-left line 2 p2 c.in_ok-root.ensures.left in
    let p4 = next-left line 3 p3 c.in_ok-limit.ensures.left in
    let p5 = next-left line 4 p4 c.in_ok-time.ensures.left in
    let p6 = next-left line 5 p5 c.next_field.ensures.left in
    rw c.from_residual-in_err-call.ensures (faulty line (λ w. chosen-none Call Put _ (c.in_err-call.ensures.value ∙ ap (λ (f : List ℕ). chosen Call Put (letter_of 67 80 f)) (next-is line 6 p6)) w.call))

pub returns-in_err-month : goal.returns-in_err-month
returns-in_err-month c =
    let line = c.args.line.now in
    let p0 = c.of-fields.ensures in
    let p1 = next-left line 0 p0 c.in_ok-firm.ensures.left in
    let p2 = next-left line 1 p1 c.in_ok-named.ensures.left in
    let p3 = next-left line 2 p2 c.in_ok-root.ensures.left in
    let p4 = next-left line 3 p3 c.in_ok-limit.ensures.left in
    let p5 = next-left line 4 p4 c.in_ok-time.ensures.left in
    let p6 = next-left line 5 p5 c.next_field.ensures.left in
    let p7 = next-left line 6 p6 c.in_ok-call.ensures.left in
    rw c.from_residual-in_err-month.ensures (faulty line (λ w. chosen-none Front Trailing _ (c.in_err-month.ensures.value ∙ ap (λ (f : List ℕ). chosen Front Trailing (letter_of 70 84 f)) (next-is line 7 p7)) w.month))

pub returns-then-not-is_empty : goal.returns-then-not-is_empty
returns-then-not-is_empty c =
    let line = c.args.line.now in
    let p0 = c.of-fields.ensures in
    let p1 = next-left line 0 p0 c.in_ok-firm.ensures.left in
    let p2 = next-left line 1 p1 c.in_ok-named.ensures.left in
    let p3 = next-left line 2 p2 c.in_ok-root.ensures.left in
    let p4 = next-left line 3 p3 c.in_ok-limit.ensures.left in
    let p5 = next-left line 4 p4 c.in_ok-time.ensures.left in
    let p6 = next-left line 5 p5 c.next_field.ensures.left in
    let p7 = next-left line 6 p6 c.in_ok-call.ensures.left in
    let p8 = next-left line 7 p7 c.in_ok-month.ensures.left in
    let some = eqb-false _ 0 (sym c.is_empty.ensures ∙ c.if-not-is_empty.true) in
    faulty line (λ w. let few = leb-true (length (fields line)) 8 w.most in some (omega (arith, ap length p8, length-drop 8 (fields line))))

pub returns : goal.returns
returns c =
    let line = c.args.line.now in
    let p0 = c.of-fields.ensures in
    let p1 = next-left line 0 p0 c.in_ok-firm.ensures.left in
    let p2 = next-left line 1 p1 c.in_ok-named.ensures.left in
    let p3 = next-left line 2 p2 c.in_ok-root.ensures.left in
    let p4 = next-left line 3 p3 c.in_ok-limit.ensures.left in
    let p5 = next-left line 4 p4 c.in_ok-time.ensures.left in
    let p6 = next-left line 5 p5 c.next_field.ensures.left in
    let p7 = next-left line 6 p6 c.in_ok-call.ensures.left in
    let p8 = next-left line 7 p7 c.in_ok-month.ensures.left in
    let none = eqb-true _ 0 (sym c.is_empty.ensures ∙ c.if-not-is_empty.false) in
    let firm = c.in_ok-firm.ensures.value ∙ ap (name_of 1 4) (next-is line 0 p0) in
    let type = c.in_ok-named.ensures.value ∙ ap type_of (next-is line 1 p1) in
    let root = c.in_ok-root.ensures.value ∙ ap (name_of 0 6) (next-is line 2 p2) in
    let limit = c.in_ok-limit.ensures.value ∙ digits-number _ ∙ ap field_number (next-is line 3 p3) in
    let typed : c.is_absolute.result ≡ is_absolute (unwrap_or (type_field line) RateNtnl) = c.is_absolute.ensures ∙ ap (λ (o : Option LimitType). is_absolute (unwrap_or o RateNtnl)) type in
    let time : Some c.in_ok-time.time ≡ time_of (is_absolute (unwrap_or (type_field line) RateNtnl)) (field line 4) = c.in_ok-time.ensures.value ∙ rw typed (ap (time_of (is_absolute (unwrap_or (type_field line) RateNtnl))) (next-is line 4 p4)) in
    let call = chosen-some Call Put side_number refl refl refl _ (c.in_ok-call.ensures.value ∙ ap (λ (f : List ℕ). chosen Call Put (letter_of 67 80 f)) (next-is line 6 p6)) in
    let months = chosen-some Front Trailing month_number refl refl refl _ (c.in_ok-month.ensures.value ∙ ap (λ (f : List ℕ). chosen Front Trailing (letter_of 70 84 f)) (next-is line 7 p7)) in
    record {
      well = is-well line (record {
        least = there-four line (sym (ap is_some limit));
        most = le-leb (length (fields line)) 8 (omega (arith, ap length p8, length-drop 8 (fields line)));
        firm = sym (ap is_some firm);
        named = sym (ap is_some type);
        root = sym (ap is_some root);
        limit = sym (ap is_some limit);
        time = sym (ap is_some time);
        call = call.1;
        month = months.1;
      });
      firm = ap (λ (o : Option ℕ). unwrap_or o 0) firm;
      named = ap (λ (o : Option LimitType). unwrap_or o RateNtnl) type;
      root = ap (λ (o : Option ℕ). unwrap_or o 0) root;
      limit = ap (λ (o : Option ℕ). unwrap_or o 0) limit;
      time = ap (λ (o : Option ℕ). unwrap_or o 0) time;
      firmwide = c.is_field-firmwide.ensures ∙ ap (λ (f : List ℕ). same f (bytes "T")) (c.next_field.ensures.value ∙ next-is line 5 p5);
      call = call.0;
      month = months.0;
    }
