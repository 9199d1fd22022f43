-- A run as its loop goes: the records from j on are still to be answered, in the memory and after the lines so far. Assumes nothing.
use Prim.Native.Nat.{ℕ, suc, ◌+◌, ◌*◌, ◌^◌, ◌≤◌, ◌<◌, min}
use mathlib.Core.Path.{◌≡◌, refl, sym, ap, ap₂, ◌∙◌}
use mathlib.Core.Bool.{Bool}
use mathlib.Core.List.{List, [], ◌∷◌, ◌++◌}
use native.Mathlib.Nat.{zero-add}
use native.Mathlib.Decide.{dec_le}
use native.Mathlib.Omega.{arith}
use lib.ListN.{length, take, drop, length-append}
use Rattle.laws.proofs.Lists.{ended}
use Rattle.std.proofs.lemmas.List.{take_at, drop_at, nil_from_length, append-nil}
use lib.Seq.{sets, sets-eq, length-sets, take_all}
use Rattle.text.proofs.Written.{sets-append}
use Rattle.tables.specs.Inner.Tables.{places}
use Rattle.profile.specs.Reading.{Reading as Arming}
use Rattle.records.specs.Event16.{bytes16}
use Rattle.answering.specs.Lines.{arm_line, record_line}
use Rattle.answering.specs.Run.{Line, in_front, is_armed, opened_of, record_answer, record_memory, record_count, first_records, fitting, taken, memory_after, lines_of, ran_of}
use Rattle.answering.specs.declared.Opened.{Opened}
use Rattle.answering.specs.declared.Ran.{Ran}

-- a record cut off the front of what is left: 16 bytes, or fewer where no more are left
pub cut : {left piece rest : List ℕ} → left ≡ piece ++ rest → length piece ≡ min bytes16 (length left)
    → (take bytes16 left ≡ piece) × (drop bytes16 left ≡ rest)
cut {left} {piece} {rest} is long = go (dec_le bytes16 (length left))
  where
    go : Dec (bytes16 ≤ length left) → (take bytes16 left ≡ piece) × (drop bytes16 left ≡ rest)
    go (yes h) =
        let whole : length piece ≡ bytes16 = omega arith in
        rw is (take_at piece rest bytes16 whole, drop_at piece rest bytes16 whole)
    go (no h) =
        let none : length rest ≡ 0 = omega (arith, ap length is ∙ length-append piece rest) in
        let empty : rest ≡ [] = nil_from_length rest none in
        let all : left ≡ piece = is ∙ ap (λ (l : List ℕ). piece ++ l) empty ∙ append-nil piece in
        (take_all bytes16 left (omega arith) ∙ all, ended left bytes16 (omega arith) ∙ sym empty)

-- the number of records that fit stands for that many records, lines and places
pub fitting-records : (place bytes room : ℕ) → fitting place bytes room ≤ record_count bytes
unfolding fitting
fitting-records place bytes room = omega arith

pub fitting-room : (place bytes room : ℕ) → fitting place bytes room * 126 ≤ room
unfolding fitting
fitting-room place bytes room = omega arith

pub fitting-places : (place bytes room : ℕ) → place < 2 ^ 64 → place + fitting place bytes room < 2 ^ 64
unfolding fitting
fitting-places place bytes room h = omega arith

-- so many records of what is left
left-on : (left piece rest : List ℕ) (few more : ℕ) → left ≡ piece ++ rest → length piece ≡ min bytes16 (length left) → more + 1 ≡ few
    → first_records few left ≡ piece ∷ first_records more rest
unfolding first_records places
left-on left piece rest few more is long n =
    let c : (take bytes16 left ≡ piece) × (drop bytes16 left ≡ rest) = cut is long in
    let k : few ≡ suc more = omega arith in
    rw k (ap₂ (λ (r l : List ℕ). r ∷ places bytes16 (take bytes16) more l) c.0 c.1)

left-none : {few : ℕ} (left : List ℕ) → few ≡ 0 → first_records few left ≡ []
unfolding first_records places
left-none left h = rw h

-- so many records of what is left are still to be answered, from the next place on, in the memory and after the lines so far
pub record Running (s xs was m room left : List ℕ) (place count to next few : ℕ) : Type 0 where
  pub same : length m ≡ length xs
  pub long : length room ≡ length was
  pub near : to + few * 126 ≤ count * 126
  pub counted : next + few ≡ place + count
  pub enough : few ≤ record_count (length left)
  pub bytes : length (lines_of place xs (first_records count s)) ≡ to + length (lines_of next m (first_records few left))
  pub text : sets was 0 (lines_of place xs (first_records count s)) ≡ sets room to (lines_of next m (first_records few left))
  pub memory : memory_after xs (first_records count s) ≡ memory_after m (first_records few left)

pub running_none : {s left : List ℕ} {count few : ℕ} (xs room : List ℕ) (place : ℕ) → left ≡ s → few ≡ count → count ≤ record_count (length s)
    → Running s xs room xs room left place count 0 place few
running_none {s} {left} {count} {few} xs room place is n enough =
    rw (is, n)
    (record {
      same = refl;
      long = refl;
      near = omega arith;
      counted = refl;
      enough = enough;
      bytes = omega arith;
      text = refl;
      memory = refl;
    })

pub running-on : {s xs was m room left : List ℕ} {place count to next few : ℕ} → Running s xs was m room left place count to next few
    → (piece rest : List ℕ) (more : ℕ) → left ≡ piece ++ rest → length piece ≡ min bytes16 (length left) → more + 1 ≡ few
    → (m' now : List ℕ) (end : ℕ) → length m' ≡ length m → m' ≡ record_memory m piece → Line end to (length room)
    → end ≡ to + length (record_line next (record_answer m piece)) → now ≡ sets room to (record_line next (record_answer m piece))
    → Running s xs was m' now rest place count end (next + 1) more
unfolding lines_of memory_after record_count
running-on {s} {xs} {was} {m} {room} {left} {place} {count} {to} {next} {few} w piece rest more is cuts one m' now end k e line n p =
    let here = left-on left piece rest few more is cuts one in
    let words = record_line next (record_answer m piece) in
    let others = lines_of (next + 1) m' (first_records more rest) in
    let lines : lines_of next m (first_records few left) ≡ words ++ others =
    ap (lines_of next m) here ∙ ap (λ (l : List ℕ). words ++ lines_of (next + 1) l (first_records more rest)) (sym e)
    in
    record {
      same = k ∙ w.same;
      long = ap length p ∙ length-sets room to words ∙ w.long;
      near = omega (arith, w.near, line.short);
      counted = omega (arith, w.counted);
      enough = omega (arith, w.enough, ap length is ∙ length-append piece rest);
      bytes = omega (arith, w.bytes, ap length lines, length-append words others);
      text = w.text ∙ ap (sets room to) lines ∙ sets-append room to words others ∙ ap₂ (λ (l : List ℕ) (i : ℕ). sets l i others) (sym p) (sym n);
      memory = w.memory ∙ ap (memory_after m) here ∙ ap (λ (l : List ℕ). memory_after l (first_records more rest)) (sym e);
    }

-- where no record is left, none is still to be answered
pub no_more : (few : ℕ) (left : List ℕ) → few ≤ record_count (length left) → (0 < few → length left ≡ 0) → few ≡ 0
unfolding record_count
no_more few left enough empty = go (dec_le 1 few)
  where
    go : Dec (1 ≤ few) → few ≡ 0
    go (yes h) = let none : length left ≡ 0 = empty h in omega arith
    go (no h) = omega arith

-- what the whole run leaves
pub record Done (s xs was m room : List ℕ) (place count to : ℕ) : Type 0 where
  pub bytes : to ≡ length (lines_of place xs (first_records count s))
  pub memory : m ≡ memory_after xs (first_records count s)
  pub text : room ≡ in_front (lines_of place xs (first_records count s)) was

pub running-end : {s xs was m room left : List ℕ} {place count to next few : ℕ} → Running s xs was m room left place count to next few → few ≡ 0
    → to ≤ length was → Done s xs was m room place count to
unfolding lines_of memory_after in_front
running-end {s} {xs} {was} {m} {room} {left} {place} {count} {to} {next} w h fits =
    let none = left-none left h in
    let all = lines_of place xs (first_records count s) in
    let long : to ≡ length all = omega (arith, w.bytes, ap (λ (l : List (List ℕ)). length (lines_of next m l)) none) in
    record {
      bytes = long;
      memory = sym (w.memory ∙ ap (memory_after m) none);
      text = sym (w.text ∙ ap (λ (l : List (List ℕ)). sets room to (lines_of next m l)) none) ∙ sets-eq all was 0 (omega arith) ∙ ap (λ (i : ℕ). all ++ drop i was) (zero-add (length all));
    }

-- the same, as the contract says it
pub ran : {s xs was m room : List ℕ} {place count to : ℕ} → Done s xs was m room place count to → count ≡ fitting place (length s) (length was)
    → (◌≡◌ {A = Ran} (record { records = count; bytes = to }) (ran_of place xs s (length was)))
    × ((m ≡ memory_after xs (taken place s (length was))) × (room ≡ in_front (lines_of place xs (taken place s (length was))) was))
unfolding ran_of taken
ran {s} {xs} {was} {m} {room} {place} {count} {to} d e =
    let long : to ≡ length (lines_of place xs (first_records (fitting place (length s) (length was)) s)) =
    d.bytes ∙ ap (λ (n : ℕ). length (lines_of place xs (first_records n s))) e
    in (
      λ k. record { records = e k; bytes = long k },
      (
        d.memory ∙ ap (λ (n : ℕ). memory_after xs (first_records n s)) e,
        d.text ∙ ap (λ (n : ℕ). in_front (lines_of place xs (first_records n s)) was) e,
      ),
    )

-- arming, as the contract says it: `answer` is what Arm answered
pub opened : {answer a : Arming} {b : Bool} → answer ≡ a → b ≡ is_armed a → (was now : List ℕ) (r : ℕ) → r ≤ length was → r ≡ length (arm_line a)
    → now ≡ sets was 0 (arm_line a) → (◌≡◌ {A = Opened} (record { armed = b; bytes = r }) (opened_of answer)) × (now ≡ in_front (arm_line answer) was)
unfolding opened_of in_front
opened {answer} {a} {b} is armed was now r fits e p =
    rw is (
      λ k. record { armed = armed k; bytes = e k },
      p ∙ sets-eq (arm_line a) was 0 (omega arith) ∙ ap (λ (i : ℕ). arm_line a ++ drop i was) (zero-add (length (arm_line a))),
    )
