-- Where the parts of the map stand, by the shapes that it is put together of. Assumes nothing.
use Prim.Native.Nat.{ℕ, ◌+◌, ◌*◌, ◌<◌}
use mathlib.Core.Path.{◌≡◌, refl, sym, ap, ◌∙◌}
use mathlib.Core.Bool.{true}
use mathlib.Core.List.{List, ◌++◌}
use lib.ListN.{length, get_or, set}
use lib.Dec.{eqb}
use Rattle.shapes.specs.Shape.{Shape, cell, both, named, rows, table}
use Rattle.shapes.proofs.Exact.{one-exact, table-exact}
use Rattle.shapes.proofs.Parts.{Part, PartOf, first_part, second-part, part-part, narrow, renamed, row-part}
use Rattle.rules.specs.declared.Rule.{Rule}
use Rattle.packing.specs.RulePlace.{rules_shape}
use Rattle.packing.specs.EntryPlace.{log_shape}
use Rattle.packing.proofs.Shapes.{rules-written, log-written}
use Rattle.machine.specs.declared.Entry.{Entry}
use Rattle.machine.specs.State.{Profile, Locks, cells_of}
use Rattle.given.specs.Parts.{totals_size}
use Rattle.state.specs.State.{number, locks_shape, from_tuple, as_tuple, profile_shape, totals_shape, PartNumbers, part_shape, Numbers, numbers_shape, locks_at, log_at, totals_at, register_at}
use Rattle.state.proofs.Exact.{number-exact, profile-exact, totals-exact, part-exact, locks-exact}
use Rattle.register.specs.Register.{register_shape}
use Rattle.register.proofs.Shapes.{register-written}
use Rattle.machine.specs.declared.Sent.{Sent}

-- the log of a part
abbrev log_of : PartNumbers → Shape 1025 (List Entry)
log_of p = log_shape (length p.1.0.roots)

log-same : (p q : PartNumbers) (x : List Entry) → (log_of p).write x ≡ (log_of q).write x
log-same p q x = log-written _ x ∙ sym (log-written _ x)

whole : PartOf numbers_shape (λ n. both part_shape log_of) 1 (λ n. n.1) (λ n q. (n.0, q))
unfolding numbers_shape
whole = second-part (cell (λ x. eqb x 1)) (λ _. both part_shape log_of) (one-exact _).long

pub firm-in : PartOf numbers_shape (λ n. part_shape) 1 (λ n. n.1.0) (λ n p. (n.0, (p, n.1.1)))
firm-in = part-part whole (λ n. first_part part_shape log_of log-same) (λ n o. whole.ok n o)

pub log-in : PartOf numbers_shape (λ n. log_of n.1.0) log_at (λ n. n.1.1) (λ n l. (n.0, (n.1.0, l)))
log-in = part-part whole (λ n. second-part part_shape log_of part-exact.long) (λ n o. whole.ok n o)

-- within a firm's part
abbrev marks_of : Profile → Shape 133 (Locks × List Sent)
marks_of p = both locks_shape (λ _. register_shape (length p.roots))

abbrev rest_of : Profile → Shape 1157 (List ℕ × (Locks × List Sent))
rest_of p = both (totals_shape p.rules) (λ _. marks_of p)

clock-there : PartOf part_shape (λ p. number) 0 (λ p. p.0) (λ p t. (t, p.1))
unfolding part_shape
clock-there = first_part number (λ _. both profile_shape rest_of) (λ a b x. refl)

after-clock : PartOf part_shape (λ p. both profile_shape rest_of) 1 (λ p. p.1) (λ p q. (p.0, q))
unfolding part_shape
after-clock = second-part number (λ _. both profile_shape rest_of) number-exact.long

after-profile : PartOf part_shape (λ p. rest_of p.1.0) 580 (λ p. p.1.1) (λ p q. (p.0, (p.1.0, q)))
after-profile = part-part after-clock (λ p. second-part profile_shape rest_of profile-exact.long) (λ p o. after-clock.ok p o)

totals-there : PartOf part_shape (λ p. totals_shape p.1.0.rules) 580 (λ p. p.1.1.0) (λ p t. (p.0, (p.1.0, (t, p.1.1.1))))
totals-there = part-part after-profile (λ p. first_part (totals_shape p.1.0.rules) (λ _. marks_of p.1.0) (λ a b x. refl)) (λ p o. after-profile.ok p o)

after-totals : PartOf part_shape (λ p. marks_of p.1.0) 1604 (λ p. p.1.1.1) (λ p q. (p.0, (p.1.0, (p.1.1.0, q))))
after-totals =
    part-part after-profile (λ p. second-part (totals_shape p.1.0.rules) (λ _. marks_of p.1.0) (totals-exact p.1.0.rules).long) (λ p o. after-profile.ok p o)

locks-there : PartOf part_shape (λ p. locks_shape) 1604 (λ p. p.1.1.1.0) (λ p l. (p.0, (p.1.0, (p.1.1.0, (l, p.1.1.1.1)))))
locks-there = part-part after-totals (λ p. first_part locks_shape (λ _. register_shape (length p.1.0.roots)) (λ a b x. refl)) (λ p o. after-totals.ok p o)

register-there : PartOf part_shape (λ p. register_shape (length p.1.0.roots)) 1608 (λ p. p.1.1.1.1)
    (λ p r. (p.0, (p.1.0, (p.1.1.0, (p.1.1.1.0, r)))))
register-there =
    part-part after-totals (λ p. second-part locks_shape (λ _. register_shape (length p.1.0.roots)) locks-exact.long) (λ p o. after-totals.ok p o)

-- in the whole
pub clock-in : PartOf numbers_shape (λ n. number) 1 (λ n. n.1.0.0) (λ n t. (n.0, ((t, n.1.0.1), n.1.1)))
clock-in = part-part firm-in (λ n. clock-there) (λ n o. firm-in.ok n o)

pub totals-in : PartOf numbers_shape (λ n. totals_shape n.1.0.1.0.rules) totals_at (λ n. n.1.0.1.1.0)
    (λ n t. (n.0, ((n.1.0.0, (n.1.0.1.0, (t, n.1.0.1.1.1))), n.1.1)))
totals-in = part-part firm-in (λ n. totals-there) (λ n o. firm-in.ok n o)

pub locks-in : PartOf numbers_shape (λ n. locks_shape) locks_at (λ n. n.1.0.1.1.1.0)
    (λ n l. (n.0, ((n.1.0.0, (n.1.0.1.0, (n.1.0.1.1.0, (l, n.1.0.1.1.1.1)))), n.1.1)))
locks-in = part-part firm-in (λ n. locks-there) (λ n o. firm-in.ok n o)

pub register-in : PartOf numbers_shape (λ n. register_shape (length n.1.0.1.0.roots)) register_at (λ n. n.1.0.1.1.1.1)
    (λ n r. (n.0, ((n.1.0.0, (n.1.0.1.0, (n.1.0.1.1.0, (n.1.0.1.1.1.0, r)))), n.1.1)))
register-in = part-part firm-in (λ n. register-there) (λ n o. firm-in.ok n o)

-- one total
abbrev pub HasTotal : ℕ → Numbers → Type 0
HasTotal i n = (numbers_shape.ok n ≡ true) × (i < length (cells_of n.1.0.1.0.rules))

pub total-in : (i : ℕ) → Part (HasTotal i) numbers_shape.write (λ n. number) (totals_at + i * 1) (λ n. get_or n.1.0.1.1.0 i 0)
    (λ n v. (n.0, ((n.1.0.0, (n.1.0.1.0, (set n.1.0.1.1.0 i v, n.1.0.1.1.1))), n.1.1)))
unfolding totals_shape
total-in i =
    part-part (narrow totals-in (HasTotal i) (λ n o. o.0)) (λ n. row-part totals_size number number-exact.long (length (cells_of n.1.0.1.0.rules)) i 0)
    (λ n o. (totals-in.ok n o.0, o.1))

-- the tables of the roots and of the rules
rules-same : (a b : List ℕ) (x : List Rule) → (rules_shape (length a)).write x ≡ (rules_shape (length b)).write x
rules-same a b x = rules-written _ x ∙ sym (rules-written _ x)

abbrev tables_after : ℕ → Shape 578 (List ℕ × List Rule)
tables_after firm = both (table 64 number) (λ roots. rules_shape (length roots))

roots-there : PartOf profile_shape (λ p. table 64 number) 1 (λ p. p.roots) (λ p r. record { firm = p.firm; roots = r; rules = p.rules })
unfolding profile_shape named from_tuple as_tuple
roots-there =
    let a = second-part number tables_after number-exact.long in
    renamed (part-part a (λ p. first_part (table 64 number) (λ roots. rules_shape (length roots)) rules-same) (λ p o. a.ok p o)) from_tuple as_tuple (λ a. refl)

rules-there : PartOf profile_shape (λ p. rules_shape (length p.roots)) 66 (λ p. p.rules) (λ p r. record { firm = p.firm; roots = p.roots; rules = r })
unfolding profile_shape named from_tuple as_tuple
rules-there =
    let a = second-part number tables_after number-exact.long in
    renamed (part-part a (λ p. second-part (table 64 number) (λ roots. rules_shape (length roots)) (table-exact 64 number number-exact).long) (λ p o. a.ok p o)) from_tuple as_tuple
    (λ a. refl)

rest-same : (a b : Profile) (x : List ℕ × (Locks × List Sent)) → (rest_of a).write x ≡ (rest_of b).write x
unfolding both totals_shape rows
rest-same a b x = ap (λ (r : List ℕ). (totals_shape b.rules).write x.0 ++ (locks_shape.write x.1.0 ++ r)) (register-written _ x.1.1 ∙ sym (register-written _ x.1.1))

profile-there : PartOf part_shape (λ p. profile_shape) 1 (λ p. p.1.0) (λ p q. (p.0, (q, p.1.1)))
profile-there = part-part after-clock (λ p. first_part profile_shape rest_of rest-same) (λ p o. after-clock.ok p o)

pub roots-in : PartOf numbers_shape (λ n. table 64 number) 3 (λ n. n.1.0.1.0.roots)
    (λ n r. (n.0, ((n.1.0.0, (record { firm = n.1.0.1.0.firm; roots = r; rules = n.1.0.1.0.rules }, n.1.0.1.1)), n.1.1)))
roots-in = part-part firm-in (λ n. part-part profile-there (λ p. roots-there) (λ p o. profile-there.ok p o)) (λ n o. firm-in.ok n o)

pub rules-in : PartOf numbers_shape (λ n. rules_shape (length n.1.0.1.0.roots)) 68 (λ n. n.1.0.1.0.rules)
    (λ n r. (n.0, ((n.1.0.0, (record { firm = n.1.0.1.0.firm; roots = n.1.0.1.0.roots; rules = r }, n.1.0.1.1)), n.1.1)))
rules-in = part-part firm-in (λ n. part-part profile-there (λ p. rules-there) (λ p o. profile-there.ok p o)) (λ n o. firm-in.ok n o)
