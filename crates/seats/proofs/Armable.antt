-- Arming a firm on the state: what is looked at first, and what an accepted text leaves. Assumes nothing.
use Prim.Native.Nat.{ℕ, zero, suc, ◌+◌, ◌*◌, ◌-◌, ◌≤◌, ◌<◌}
use native.Mathlib.Omega.{arith}
use native.Mathlib.Nat.{suc-ne-zero}
use mathlib.Core.Path.{◌≡◌, refl, sym, ap, ap₂, ◌∙◌, subst, subst⁻¹}
use mathlib.Core.Bool.{Bool, true, false, not, cond, ◌&&◌, ◌||◌}
use mathlib.Core.List.{List, [], ◌∷◌, ◌++◌, append_assoc, append-nil}
use lib.ListN.{length, get_or, take, drop, length-append, length-drop, drop_of_length-le}
use lib.Seq.{drop-drop, get_or-take, get_or-drop, length-take-le, take_at, drop_at}
use lib.Dec.{eqb, ltb}
use borrow.Author.Tests.{eq-eqb, eqb-true, eqb-false, ne_eqb, ltb-false, lt-ltb, le-ltb}
use Rattle.tables.specs.Inner.Tables.{zeros}
use Rattle.shapes.proofs.Tables.{length-zeros}
use Rattle.machine.specs.State.{Profile, State, armed}
use Rattle.machine.specs.Refusals.{first_of}
use Rattle.std.specs.declared.result.Result.TheVariants.{Ok, Err}
use Rattle.profile.specs.Profile.{Outcome, reading_of, outcome_of, outcome_beside, Scanned, scan_beside, scan_told}
use Rattle.profile.specs.declared.Scan.{Scan}
use Rattle.profile.specs.declared.Armed.{Armed}
use Rattle.profile.specs.declared.Fault.{Fault}
use Rattle.profile.specs.Reading.{Refused as NotRead, reading_told}
use Rattle.profile.proofs.Laws.{lawful, reading-accepted, reading-refused}
use Rattle.profile.proofs.Beside.{accepted-beside, accepted-other}
use Rattle.state.specs.State.{size, rest_size, encode, decode, stored}
use Rattle.state.proofs.Armed.{armed-stored}
use Rattle.state.proofs.Map.{decode_is}
use Rattle.firms.specs.Seats.{Seat, empty, taken, Seats, turned, facing, left_by}
use Rattle.firms.specs.Doings.{arm, Reply, done, is_taken, name_of, beside_of, Outcome as Done, arm_refusal as firm_arm_refusal, armed_by, stays, at_seat, outcome_of as done_for, after_first, after_doing}
use Rattle.seats.specs.Memory.{state_size, seat_part, encode_seat, decode_seat, encode_seats, stored_seats, decode_seats, is_seat, is_sound_memory, firm_of, arm_refusal, given_to, arm_answer, arm_memory}
use Rattle.seats.proofs.Laws.{taken-apart, seat-long, seat-at, seat-again}
use Rattle.seats.proofs.Calls.{span, lent_is}
use Rattle.seats.proofs.Both.{other_at, other-part, other-start, other-decoded}

-- ---- the refusals by the memory and the firm

module _ (xs : List ℕ) (firm : ℕ) where
  pub arm-short : length xs < state_size → 1 ≡ arm_refusal xs firm
  unfolding arm_refusal first_of
  arm-short h = rw (lt-ltb _ _ h)

  pub arm-firm : state_size ≤ length xs → 1 < firm → 13 ≡ arm_refusal xs firm
  unfolding arm_refusal first_of
  arm-firm l h = rw (le-ltb _ _ l, lt-ltb _ _ h)

  module _ (l : state_size ≤ length xs) (f : firm ≤ 1) where
    pub arm-armed : (get_or xs (firm * size) 0 ≡ 0 → ⊥) → 3 ≡ arm_refusal xs firm
    unfolding arm_refusal first_of
    arm-armed m = rw (le-ltb _ _ l, le-ltb _ _ f, ne_eqb _ _ m)

    pub arm-alone : get_or xs (firm * size) 0 ≡ 0 → get_or xs (size - firm * size) 0 ≡ 0 → 0 ≡ arm_refusal xs firm
    unfolding arm_refusal first_of
    arm-alone m o = rw (le-ltb _ _ l, le-ltb _ _ f, eq-eqb _ _ m, eq-eqb _ _ o)

    pub arm-unsound : get_or xs (firm * size) 0 ≡ 0 → (get_or xs (size - firm * size) 0 ≡ 0 → ⊥) → is_sound_memory xs ≡ false → 2 ≡ arm_refusal xs firm
    unfolding arm_refusal first_of
    arm-unsound m o e = rw (le-ltb _ _ l, le-ltb _ _ f, eq-eqb _ _ m, ne_eqb _ _ o, e)

    pub arm-sound : get_or xs (firm * size) 0 ≡ 0 → (get_or xs (size - firm * size) 0 ≡ 0 → ⊥) → is_sound_memory xs ≡ true → 0 ≡ arm_refusal xs firm
    unfolding arm_refusal first_of
    arm-sound m o e = rw (le-ltb _ _ l, le-ltb _ _ f, eq-eqb _ _ m, ne_eqb _ _ o, e)

  pub arm-refused : (text : List ℕ) (n : ℕ) → n ≡ arm_refusal xs firm → (n ≡ 0 → ⊥) → (NotRead n 0 ≡ arm_answer xs firm text) × (xs ≡ arm_memory xs firm text)
  unfolding arm_answer arm_memory
  arm-refused text n e h = rw (← e, ne_eqb n 0 h) (refl, refl)

-- what arming meets that is not refused so
pub record Armable (xs : List ℕ) (firm : ℕ) : Type 0 where
  pub none : arm_refusal xs firm ≡ 0
  pub long : state_size ≤ length xs
  pub known : firm ≤ 1
  pub free : get_or xs (firm * size) 0 ≡ 0
  pub beside : (get_or xs (size - firm * size) 0 ≡ 0 → ⊥) → is_sound_memory xs ≡ true

pub armable : (xs : List ℕ) (firm : ℕ) → arm_refusal xs firm ≡ 0 → Armable xs firm
unfolding arm_refusal first_of
armable xs firm none = go (ltb (length xs) state_size) refl (ltb 1 firm) refl (eqb (get_or xs (firm * size) 0) 0) refl (eqb (get_or xs (size - firm * size) 0) 0) refl (is_sound_memory xs) refl none
  where
    go : (a : Bool) → ltb (length xs) state_size ≡ a → (b : Bool) → ltb 1 firm ≡ b → (c : Bool) → eqb (get_or xs (firm * size) 0) 0 ≡ c
        → (o : Bool) → eqb (get_or xs (size - firm * size) 0) 0 ≡ o → (d : Bool) → is_sound_memory xs ≡ d
        → ◌≡◌ {A = ℕ} (cond a 1 (cond b 13 (cond (not c) 3 (cond (not o && not d) 2 0)))) 0 → Armable xs firm
    go true ea b eb c ec o eo d ed e = absurd (suc-ne-zero 0 e)
    go false ea true eb c ec o eo d ed e = absurd (suc-ne-zero 12 e)
    go false ea false eb false ec o eo d ed e = absurd (suc-ne-zero 2 e)
    go false ea false eb true ec false eo false ed e = absurd (suc-ne-zero 1 e)
    go false ea false eb true ec false eo true ed e = record {
      none = none;
      long = ltb-false _ _ ea;
      known = ltb-false 1 firm eb;
      free = eqb-true _ _ ec;
      beside = λ n. ed;
    }
    go false ea false eb true ec true eo d ed e = record {
      none = none;
      long = ltb-false _ _ ea;
      known = ltb-false 1 firm eb;
      free = eqb-true _ _ ec;
      beside = λ n. absurd (n (eqb-true _ _ eo));
    }

-- ---- the seats that arming meets

pub part-mark : (xs : List ℕ) (firm : ℕ) → get_or (seat_part firm xs) 0 0 ≡ get_or xs (firm * size) 0
part-mark xs firm = get_or-take size (drop (firm * size) xs) 0 0 (omega arith) ∙ (get_or-drop (firm * size) xs 0 0 ∙ ap (λ (i : ℕ). get_or xs i 0) (omega arith))

-- the name that stands in a seat
pub no_name : (xs : List ℕ) → get_or xs 0 0 ≡ 0 → 0 ≡ name_of (decode_seat xs)
unfolding decode_seat name_of
no_name xs m = rw (eq-eqb (get_or xs 0 0) 0 m)

pub its-name : (xs : List ℕ) → (get_or xs 0 0 ≡ 0 → ⊥) → get_or xs 2 0 ≡ name_of (decode_seat xs)
unfolding decode_seat name_of
its-name xs m = rw (ne_eqb (get_or xs 0 0) 0 m) (sym (ap (λ s. s.part.profile.firm) (decode_is xs)))

pub clean-kept : (xs : List ℕ) → length xs ≡ size → is_seat xs ≡ true → xs ≡ encode_seat (decode_seat xs)
clean-kept xs long h = sym (seat-again xs long h)

pub clean-zeros : (xs : List ℕ) → length xs ≡ size → get_or xs 0 0 ≡ 0 → {ys : List ℕ} → ys ≡ zeros (length xs) → ys ≡ encode_seat (decode_seat xs)
unfolding decode_seat encode_seat
clean-zeros xs long m e = rw (eq-eqb (get_or xs 0 0) 0 m) (e ∙ ap zeros long)

-- the numbers of two seats put down one after the other
put_two : (xs a b : List ℕ) → state_size ≤ length xs → length b ≡ size → (firm : ℕ) → firm ≤ 1 → (s : State) (other : Seat) → a ≡ encode s → b ≡ encode_seat other
    → let m = take (other_at firm) xs ++ (b ++ drop size (drop (other_at firm) xs)) in
    take (firm * size) m ++ (a ++ drop size (drop (firm * size) m)) ≡ stored_seats (facing (firm_of firm) (record { first = taken s; second = other })) xs
unfolding stored_seats encode_seats encode_seat facing turned
put_two xs a b long few zero le s other ea eb =
    ap (λ (l : List ℕ). a ++ l) (drop_at (take size xs) (b ++ drop size (drop size xs)) size (length-take-le size xs (omega arith)))
    ∙ (sym (append_assoc a b (drop size (drop size xs)))
    ∙ (λ i. (ea i ++ eb i) ++ drop-drop size size xs i))
put_two xs a b long few (suc zero) le s other ea eb =
    ap₂ (λ (l m : List ℕ). l ++ (a ++ drop size m)) (take_at b (drop size xs) size few) (drop_at b (drop size xs) size few)
    ∙ (sym (append_assoc b a (drop size (drop size xs)))
    ∙ (λ i. (eb i ++ ea i) ++ drop-drop size size xs i))
put_two xs a b long few (suc (suc n)) le s other ea eb = absurd (omega arith)

-- a profile of another name, armed on an empty seat
pub armed-seats : (u : Seats) → u.first ≡ empty → (p : Profile) → (p.firm ≡ name_of u.second → ⊥)
    → (after_first u (arm p) ≡ record { first = taken (armed p); second = u.second }) × ((done_for u (arm p)).reply ≡ done)
unfolding after_first done_for at_seat beside_of firm_arm_refusal first_of armed_by is_taken
armed-seats u e p differs = (
  ap (λ (x : Seat). record { first = (at_seat (beside_of u.second) x (arm p)).seat; second = left_by (at_seat (beside_of u.second) x (arm p)).joined u.second }) e ∙ rw test,
  ap (λ (x : Seat). (at_seat (beside_of u.second) x (arm p)).reply) e ∙ rw test,
)
  where
    go : (b : Bool) → (b && false) ≡ false
    go true = refl
    go false = refl

    test : (is_taken u.second && eqb p.firm (name_of u.second)) ≡ false
    test = ap (λ (b : Bool). is_taken u.second && b) (ne_eqb p.firm (name_of u.second) differs) ∙ go (is_taken u.second)

module _ (xs : List ℕ) (firm : ℕ) (a : Armable xs firm) where
  abbrev beside : Seat
  beside = (facing (firm_of firm) (decode_seats xs)).second

  abbrev lent_other : List ℕ
  lent_other = take (other_at firm + size - other_at firm) (drop (other_at firm) xs)

  pub own-empty : (facing (firm_of firm) (decode_seats xs)).first ≡ empty
  unfolding decode_seat
  own-empty = seat-at xs firm a.known ∙ rw (eq-eqb (get_or (seat_part firm xs) 0 0) 0 (part-mark xs firm ∙ a.free))

  lent-long : length lent_other ≡ size
  lent-long = ap length (other-part xs firm a.known) ∙ seat-long xs a.long (1 - firm) (omega arith)

  pub other-mark : get_or (seat_part (1 - firm) xs) 0 0 ≡ get_or xs (size - firm * size) 0
  other-mark = part-mark xs (1 - firm) ∙ ap (λ (i : ℕ). get_or xs i 0) (sym (other-start firm a.known))

  pub name-asked : length lent_other ≡ size
  name-asked = lent-long

  lent-seat : decode_seat lent_other ≡ beside
  lent-seat = ap decode_seat (other-part xs firm a.known) ∙ other-decoded xs firm a.known

  pub clean-asked : (length lent_other ≡ size) × ((get_or lent_other 0 0 ≡ 0 → ⊥) → is_seat lent_other ≡ true)
  clean-asked = (
    lent-long,
    λ m. ap is_seat (other-part xs firm a.known)
        ∙ seat firm a.known (a.beside (λ z. m (ap (λ (l : List ℕ). get_or l 0 0) (other-part xs firm a.known) ∙ (other-mark ∙ z)))),
  )
    where
      seat : (f : ℕ) → f ≤ 1 → is_sound_memory xs ≡ true → is_seat (seat_part (1 - f) xs) ≡ true
      seat zero le h = (taken-apart xs h).second
      seat (suc zero) le h = (taken-apart xs h).first
      seat (suc (suc n)) le h = absurd (omega arith)

  -- the other's seat as it is left
  pub clean-long : {zs : List ℕ} → zs ≡ encode_seat (decode_seat lent_other) → length zs ≡ size
  unfolding encode_seat decode_seat
  clean-long {zs} e = ap length e ∙ go (eqb (get_or lent_other 0 0) 0) refl
    where
      go : (b : Bool) → eqb (get_or lent_other 0 0) 0 ≡ b → length (encode_seat (cond b empty (taken (decode lent_other)))) ≡ size
      go true h = length-zeros size
      go false h = rw h at (ap length (seat-again lent_other lent-long (clean-asked.1 (eqb-false _ _ h))) ∙ lent-long)

  -- what the text gave
  module _ (text : List ℕ) {name : ℕ} (named : name ≡ name_of (decode_seat lent_other)) where
    abbrev given : Outcome
    given = given_to xs firm text

    name-is : name ≡ name_of beside
    name-is = named ∙ ap name_of lent-seat

    given_is : outcome_beside name text ≡ given
    unfolding given_to
    given_is = ap (λ (n : ℕ). outcome_beside n text) name-is

    read_is : (scan : Scan) → scan_told scan ≡ scan_beside name text → reading_told scan.reading ≡ reading_of given
    unfolding scan_beside
    read_is scan e = ap (λ (s : Scanned). s.reading) e ∙ ap reading_of given_is

    pub text-refused : (scan : Scan) → scan_told scan ≡ scan_beside name text → (fault : Fault) → scan.reading ≡ Err fault
        → (reading_told (Err fault) ≡ arm_answer xs firm text) × (xs ≡ arm_memory xs firm text)
    unfolding arm_answer arm_memory
    text-refused scan e fault is =
        let r : reading_told (Err fault) ≡ reading_of given = ap reading_told (sym is) ∙ read_is scan e in
        let f = reading-refused given _ _ (sym r) in
        (rw a.none r, rw (a.none, ne_eqb _ _ f.0))

    -- and what was put down
    module _ {zs : List ℕ} (clean : zs ≡ encode_seat (decode_seat lent_other)) (long : length zs ≡ size) where
      abbrev between : List ℕ
      between = take (other_at firm) xs ++ (zs ++ drop (other_at firm + size - other_at firm) (drop (other_at firm) xs))

      pub between-long : state_size ≤ length between
      between-long =
          let rest = drop (other_at firm + size - other_at firm) (drop (other_at firm) xs) in
          omega (
            arith,
            a.known,
            a.long,
            long,
            length-append (take (other_at firm) xs) (zs ++ rest),
            length-append zs rest,
            length-take-le (other_at firm) xs (omega (arith, a.known, a.long)),
            length-drop (other_at firm + size - other_at firm) (drop (other_at firm) xs),
            length-drop (other_at firm) xs,
          )

      abbrev lent_own : List ℕ
      lent_own = take (firm * size + size - firm * size) (drop (firm * size) between)

      own-long : length lent_own ≡ size
      own-long = ap length (lent_is between firm) ∙ seat-long between between-long firm a.known

      pub armed-asked : size ≤ length lent_own
      armed-asked = omega (arith, own-long)

      pub text-accepted : (scan : Scan) → scan_told scan ≡ scan_beside name text → (armed' : Armed) → scan.reading ≡ Ok armed'
          → {ys : List ℕ}
          → ys ≡ (1 ∷ 0 ∷ armed'.firm ∷ armed'.roots ∷ []) ++ (scan.roots ++ ((armed'.rules ∷ []) ++ (scan.rules ++ (zeros rest_size ++ drop size lent_own))))
          → (reading_told (Ok armed') ≡ arm_answer xs firm text)
          × (take (firm * size) between ++ (ys ++ drop (firm * size + size - firm * size) (drop (firm * size) between)) ≡ arm_memory xs firm text)
      unfolding arm_answer arm_memory scan_beside stored given_to
      text-accepted scan e armed' is {ys} y =
          let r : reading_told (Ok armed') ≡ reading_of given = ap reading_told (sym is) ∙ read_is scan e in
          let f = reading-accepted given _ _ _ (sym r) in
          let p = given.profile in
          let ok : (outcome_beside name text).refusal ≡ 0 = ap (λ (o : Outcome). o.refusal) given_is ∙ f.0 in
          let few = subst (λ (o : Outcome). length o.profile.rules ≤ 256) (sym (accepted-beside text name ok) ∙ given_is) (lawful text).rules-most in
          let differs : p.firm ≡ name_of beside → ⊥ = λ z. accepted-other text name ok (ap (λ (o : Outcome). o.profile.firm) given_is ∙ (z ∙ sym name-is)) in
          let scanned : scan_told scan ≡ scan_beside (name_of beside) text = e ∙ ap (λ (n : ℕ). scan_beside n text) name-is in
          let numbers : ys ≡ encode (armed p) ++ drop size lent_own =
          y
          ∙ ((λ i. (1 ∷ 0 ∷ f.1 i ∷ f.3 i ∷ []) ++ ((scanned i).roots ++ ((f.2 i ∷ []) ++ ((scanned i).rules ++ (zeros rest_size ++ drop size lent_own)))))
          ∙ armed-stored p lent_own few)
          in
          let alone : ys ≡ encode (armed p) =
          numbers ∙ (ap (λ (l : List ℕ). encode (armed p) ++ l) (drop_of_length-le lent_own {i = size} (omega (arith, own-long))) ∙ append-nil (encode (armed p)))
          in
          let seats : after_doing (firm_of firm) (decode_seats xs) (arm p) ≡ facing (firm_of firm) (record { first = taken (armed p); second = beside }) =
          ap (facing (firm_of firm)) (armed-seats (facing (firm_of firm) (decode_seats xs)) own-empty p differs).0
          in
          let put = put_two xs ys zs a.long long firm a.known (armed p) beside alone (clean ∙ ap encode_seat lent-seat) in (
            rw a.none r,
            rw (a.none, f.0)
                ((λ i. take (firm * size) (take (other_at firm) xs ++ (zs ++ drop (span (other_at firm) i) (drop (other_at firm) xs)))
                ++ (ys ++ drop (span (firm * size) i) (drop (firm * size) (take (other_at firm) xs ++ (zs ++ drop (span (other_at firm) i) (drop (other_at firm) xs))))))
                ∙ (put ∙ ap (λ (u : Seats). stored_seats u xs) (sym seats))),
          )
