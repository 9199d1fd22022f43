-- A state that fits is just its numbers: it is read again where it is stored, and memory that is as the map says holds one. Assumes nothing.
use Prim.Native.Nat.{ℕ, ◌≤◌}
use native.Mathlib.Omega.{arith}
use mathlib.Core.Path.{◌≡◌, refl, sym, ap, ap₂, ◌∙◌, subst}
use mathlib.Core.Bool.{true, ◌&&◌}
use mathlib.Core.List.{List, [], ◌++◌, append-nil}
use lib.ListN.{length, take, drop, length-append, take-append-drop}
use lib.Seq.{drop_at, take_all}
use lib.Dec.{eqb}
use borrow.Author.Tests.{eqb-true}
use Rattle.laws.proofs.Tests.{and_l, and_r, and_i}
use Rattle.shapes.specs.Shape.{cell, both, named, coded, word, flag, table}
use Rattle.shapes.proofs.Exact.{rows-many}
use Rattle.shapes.proofs.Valid.{every_any, rows_ok, table-ok, table-few, table-all}
use Rattle.machine.specs.State.{Profile, Locks, State, cells_of, roots_in, rules_in, account_rule, Fitting}
use Rattle.packing.specs.RulePlace.{rule_shape, rules_shape}
use Rattle.packing.specs.EntryPlace.{entry_shape, log_shape}
use Rattle.given.specs.Parts.{totals_size}
use Rattle.state.specs.State.{size, number, marks_of, locks_shape, as_tuple, profile_shape, totals_shape, part_shape, Numbers, numbers_shape, totals_in, accounts_of, numbers_of, state_of, encode, stored, decode}
use Rattle.state.specs.Inner.Laid.{Fits, Laid}
use Rattle.state.proofs.Accounts.{accounts-rules, accounts-totals, accounts-measured, accounts-again, map-length}
use Rattle.state.proofs.Exact.{numbers-exact}
use Rattle.machine.proofs.Cells.{cells-bound}
use Rattle.register.specs.Register.{register_shape}
use Rattle.register.specs.SentPlace.{sent_shape}

-- what the validity of numbers says, part by part
pub record Valid (n : Numbers) : Type 0 where
  pub mark : n.0 ≡ 1
  pub roots : (table 64 number).ok n.1.0.1.0.roots ≡ true
  pub rules : (rules_shape (length n.1.0.1.0.roots)).ok n.1.0.1.0.rules ≡ true
  pub totals : (totals_shape n.1.0.1.0.rules).ok n.1.0.1.1.0 ≡ true
  pub register : (register_shape (length n.1.0.1.0.roots)).ok n.1.0.1.1.1.1 ≡ true
  pub log : (log_shape (length n.1.0.1.0.roots)).ok n.1.1 ≡ true

locks-ok : (l : Locks) → locks_shape.ok l ≡ true
unfolding locks_shape marks_of named both word flag number cell
locks-ok l = refl

profile-ok : (p : Profile) → (table 64 number).ok p.roots ≡ true → (rules_shape (length p.roots)).ok p.rules ≡ true → profile_shape.ok p ≡ true
unfolding profile_shape named both as_tuple number cell
profile-ok p a b = and_i a b

pub valid-ok : (n : Numbers) → Valid n → numbers_shape.ok n ≡ true
unfolding numbers_shape part_shape both number cell
valid-ok n v =
    let p = n.1.0 in
    and_i (ap (λ (x : ℕ). (cell (λ y. eqb y 1)).ok x) v.mark) (and_i (and_i (profile-ok p.1.0 v.roots v.rules) (and_i v.totals (and_i (locks-ok p.1.1.1.0) v.register))) v.log)

pub ok-valid : (n : Numbers) → numbers_shape.ok n ≡ true → Valid n
unfolding numbers_shape part_shape profile_shape named both as_tuple number cell
ok-valid n h =
    let p = n.1.0 in
    let here = and_r ((cell (λ y. eqb y 1)).ok n.0) _ h in
    let part = and_l (profile_shape.ok p.1.0 && ((totals_shape p.1.0.rules).ok p.1.1.0 && (locks_shape.ok p.1.1.1.0 && (register_shape (length p.1.0.roots)).ok p.1.1.1.1))) _ here in
    let profile = and_l (profile_shape.ok p.1.0) _ part in
    record {
      mark = eqb-true _ _ (and_l ((cell (λ y. eqb y 1)).ok n.0) _ h);
      roots = and_l ((table 64 number).ok p.1.0.roots) _ profile;
      rules = and_r ((table 64 number).ok p.1.0.roots) _ profile;
      totals = and_l ((totals_shape p.1.0.rules).ok p.1.1.0) _ (and_r (profile_shape.ok p.1.0) _ part);
      register =
          and_r (locks_shape.ok p.1.1.1.0) _
          (and_r ((totals_shape p.1.0.rules).ok p.1.1.0) _ (and_r (profile_shape.ok p.1.0) _ part));
      log = and_r (profile_shape.ok p.1.0 && ((totals_shape p.1.0.rules).ok p.1.1.0 && (locks_shape.ok p.1.1.1.0 && (register_shape (length p.1.0.roots)).ok p.1.1.1.1))) _ here;
    }

-- the numbers of a state that fits are valid, and stand for it
module _ (s : State) (f : Fits s) where
  many-accounts : length (totals_in s.part.accounts) ≡ length (cells_of s.part.profile.rules)
  unfolding Fitting
  many-accounts = map-length _ s.part.accounts ∙ sym (map-length account_rule s.part.accounts) ∙ ap length f.fitting

  few-accounts : length (cells_of s.part.profile.rules) ≤ totals_size
  unfolding rules_in
  few-accounts = cells-bound s.part.profile.rules f.rules

  pub fits-ok : numbers_shape.ok (numbers_of s) ≡ true
  unfolding numbers_of totals_shape rules_shape rule_shape register_shape sent_shape log_shape entry_shape coded number cell roots_in rules_in
  fits-ok = valid-ok (numbers_of s) (record {
    mark = refl;
    roots = table-ok 64 _ _ f.roots (every_any _);
    rules = table-ok 256 _ _ f.rules f.valid;
    totals = rows_ok totals_size _ _ _ many-accounts few-accounts (every_any _);
    register = table-ok 64 _ _ f.few f.sent;
    log = table-ok 512 _ _ f.log f.entries;
  })

  pub fits-again : state_of (numbers_of s) ≡ s
  unfolding state_of numbers_of Fitting
  fits-again = λ i. record {
    part = record {
      clock = s.part.clock;
      profile = s.part.profile;
      accounts = accounts i;
      locks = s.part.locks;
      register = s.part.register;
    };
    log = s.log;
  }
    where
      accounts : accounts_of (cells_of s.part.profile.rules) (totals_in s.part.accounts) ≡ s.part.accounts
      accounts =
          ap₂ accounts_of (sym f.fitting) (sym (append-nil (totals_in s.part.accounts))) ∙ accounts-again s.part.accounts [] f.measured

-- valid numbers stand for a state that fits, and are its numbers
module _ (n : Numbers) (v : Valid n) where
  totals-many : length n.1.0.1.1.0 ≡ length (cells_of n.1.0.1.0.rules)
  unfolding totals_shape
  totals-many = rows-many totals_size number _ n.1.0.1.1.0 v.totals

  pub valid-fits : Fits (state_of n)
  unfolding state_of rules_shape rule_shape register_shape sent_shape log_shape entry_shape coded roots_in rules_in Fitting
  valid-fits = record {
    roots = table-few 64 number _ v.roots;
    rules = table-few 256 _ _ v.rules;
    log = table-few 512 _ _ v.log;
    fitting = accounts-rules _ n.1.0.1.1.0 (omega (arith, totals-many));
    measured = accounts-measured _ n.1.0.1.1.0;
    valid = table-all 256 _ _ v.rules;
    entries = table-all 512 _ _ v.log;
    few = table-few 64 _ _ v.register;
    sent = table-all 64 _ _ v.register;
  }

  pub numbers-again : numbers_of (state_of n) ≡ n
  unfolding state_of numbers_of
  numbers-again = λ i. (sym v.mark i, ((n.1.0.0, (n.1.0.1.0, (totals i, n.1.0.1.1.1))), n.1.1))
    where
      totals : totals_in (accounts_of (cells_of n.1.0.1.0.rules) n.1.0.1.1.0) ≡ n.1.0.1.1.0
      totals =
          accounts-totals (cells_of n.1.0.1.0.rules) n.1.0.1.1.0 (omega (arith, totals-many))
          ∙ take_all (length (cells_of n.1.0.1.0.rules)) n.1.0.1.1.0 (omega (arith, totals-many))

module _ (s : State) (f : Fits s) (xs : List ℕ) where
  pub decode-stored : decode (stored s xs) ≡ s
  unfolding decode stored encode
  decode-stored = ap state_of (numbers-exact.back (numbers_of s) (drop size xs) (fits-ok s f)) ∙ fits-again s f

  pub encode-long : length (encode s) ≡ size
  unfolding encode
  encode-long = numbers-exact.long (numbers_of s) (fits-ok s f)

  pub stored-rest : drop size (stored s xs) ≡ drop size xs
  unfolding stored
  stored-rest = drop_at (encode s) (drop size xs) size encode-long

  pub stored-test : numbers_shape.test (stored s xs) ≡ true
  unfolding stored encode
  stored-test = numbers-exact.pass (numbers_of s) (drop size xs) (fits-ok s f)

  pub stored-long : size ≤ length (stored s xs)
  unfolding stored
  stored-long = omega (arith, length-append (encode s) (drop size xs), encode-long)

  -- where a state that fits is stored, it is laid out
  pub stored-laid : Laid (stored s xs)
  unfolding stored
  stored-laid = record {
    long = stored-long;
    is = ap (λ (l : List ℕ). encode s ++ l) (sym stored-rest) ∙ ap (λ (t : State). stored t (stored s xs)) (sym decode-stored);
    fits = subst Fits (sym decode-stored) f;
  }

  -- storing another state over it is storing that one
  pub stored-again : (t : State) → stored t (stored s xs) ≡ stored t xs
  unfolding stored
  stored-again t = ap (λ (l : List ℕ). encode t ++ l) stored-rest

-- a memory whose front is a state's numbers is that state stored in it
pub is-stored : (s : State) (xs : List ℕ) → take size xs ≡ encode s → xs ≡ stored s xs
unfolding stored
is-stored s xs h = sym (take-append-drop size xs) ∙ ap (λ (l : List ℕ). l ++ drop size xs) h

-- memory that is as the map says has a state laid out
module _ (xs : List ℕ) (long : size ≤ length xs) (test : numbers_shape.test xs ≡ true) where
  valid : Valid (numbers_shape.read xs)
  valid = ok-valid (numbers_shape.read xs) (numbers-exact.valid xs long test)

  pub test-restored : take size xs ≡ encode (decode xs)
  unfolding encode decode
  test-restored = sym (ap numbers_shape.write (numbers-again (numbers_shape.read xs) valid) ∙ numbers-exact.same xs long test)

  pub test_fits : Fits (decode xs)
  unfolding decode
  test_fits = valid-fits (numbers_shape.read xs) valid

  pub test-laid : Laid xs
  test-laid = record { long = long; is = is-stored (decode xs) xs test-restored; fits = test_fits }
