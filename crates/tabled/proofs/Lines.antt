-- The lines of the table as they are written, one after the other. Assumes nothing.
use Prim.Native.Nat.{ℕ, ◌+◌, ◌-◌, ◌*◌, ◌≤◌, ◌<◌}
use mathlib.Core.Path.{◌≡◌, refl, sym, ap, ap₂, ◌∙◌}
use mathlib.Core.List.{List, [], ◌∷◌, ◌++◌}
use native.Mathlib.Nat.{zero-add}
use native.Mathlib.Omega.{arith}
use lib.ListN.{length, get_or, take, drop, length-append}
use lib.Seq.{sets, length-sets}
use borrow.Author.Tests.{ne_eqb, lt-ltb, le-ltb}
use Rattle.laws.proofs.Lists.{from, ended}
use Rattle.text.specs.Digits.{name_bytes}
use Rattle.text.proofs.Written.{sets-append, then-written}
use Rattle.rules.specs.declared.Level.{Level}
use Rattle.rules.specs.declared.Level.TheVariants.{Firm, Root}
use Rattle.machine.specs.State.{State}
use Rattle.state.specs.State.{decode}
use Rattle.state.proofs.Map.{decode_is}
use Rattle.calls.specs.Calls.{memory_refusal}
use Rattle.answering.specs.Lines.{spaced}
use Rattle.accounted.specs.Accounted.{is_short_account}
use Rattle.figures.specs.declared.Figures.{Figures}
use Rattle.figures.specs.Figures.{row_numbers}
use Rattle.figures.specs.Account.{row_place, row_at, row_of}
use Rattle.tabled.specs.Tabled.{row_line, root_lines, table_lines, table_text}

-- the eight numbers from a place on are the row that begins there
module _ (xs : List ℕ) (at : ℕ) (fits : at + 8 ≤ length xs) where
  next : (k j : ℕ) → k + 1 ≡ j → k < 8 → drop (at + k) xs ≡ get_or xs (at + k) 0 ∷ drop (at + j) xs
  next k j e h =
      let n : at + k + 1 ≡ at + j = omega arith in
      from xs (at + k) (omega arith) ∙ ap (λ (i : ℕ). get_or xs (at + k) 0 ∷ drop i xs) n

  first : drop at xs ≡ get_or xs at 0 ∷ drop (at + 1) xs
  first = from xs at (omega arith)

  pub eight : take 8 (drop at xs) ≡ row_numbers (row_at xs at)
  unfolding row_numbers row_at
  eight = rw (
    first,
    next 1 2 refl (omega arith),
    next 2 3 refl (omega arith),
    next 3 4 refl (omega arith),
    next 4 5 refl (omega arith),
    next 5 6 refl (omega arith),
    next 6 7 refl (omega arith),
    next 7 8 refl (omega arith),
  )

  pub row-bytes : (name : ℕ) → name_bytes name ++ spaced (take 8 (drop at xs)) ≡ row_line name (row_at xs at)
  unfolding row_line
  row-bytes name = ap (λ (l : List ℕ). name_bytes name ++ spaced l) eight

-- the line of root i, as its figures are cut out of the account
pub root_line : (account names : List ℕ) (i name : ℕ) → i * 8 + 8 ≤ length account → name ≡ get_or names i 0
    → name_bytes name ++ spaced (take (i * 8 + 8 - i * 8) (drop (i * 8) account)) ≡ row_line (get_or names i 0) (row_of account (Root i))
unfolding row_place
root_line account names i name fits e =
    let n : i * 8 + 8 - i * 8 ≡ 8 = omega arith in
    ap (λ (k : ℕ). name_bytes name ++ spaced (take k (drop (i * 8) account))) n
    ∙ row-bytes account (i * 8) fits name
    ∙ ap (λ (m : ℕ). row_line m (row_at account (i * 8))) e

-- ---- the roots' lines as their loop goes: those from root i on are still to be written

pub record Going (rows : Level → Figures) (names was room : List ℕ) (to i : ℕ) : Type 0 where
  pub within : i ≤ length names
  pub long : length room ≡ length was
  pub near : to ≤ i * 192
  pub bytes : length (root_lines rows 0 names) ≡ to + length (root_lines rows i (drop i names))
  pub text : sets was 0 (root_lines rows 0 names) ≡ sets room to (root_lines rows i (drop i names))

pub going-none : (rows : Level → Figures) (names room : List ℕ) → Going rows names room room 0 0
going-none rows names room =
    record { within = omega arith; long = refl; near = omega arith; bytes = sym (zero-add _); text = refl }

pub going_on : {rows : Level → Figures} {names was room : List ℕ} {to i : ℕ} → Going rows names was room to i → i < length names
    → (line now : List ℕ) (next : ℕ) → line ≡ row_line (get_or names i 0) (rows (Root i)) → next ≤ to + 192 → next ≡ to + length line
    → now ≡ sets room to line → Going rows names was now next (i + 1)
unfolding root_lines
going_on {rows} {names} {was} {room} {to} {i} w h line now next is short n p =
    let rest = root_lines rows (i + 1) (drop (i + 1) names) in
    let lines : root_lines rows i (drop i names) ≡ line ++ rest =
    ap (root_lines rows i) (from names i h) ∙ ap (λ (l : List ℕ). l ++ rest) (sym is)
    in
    record {
      within = omega arith;
      long = ap length p ∙ length-sets room to line ∙ w.long;
      near = omega (arith, w.near);
      bytes = omega (arith, w.bytes, ap length lines, length-append line rest);
      text = w.text ∙ ap (sets room to) lines ∙ sets-append room to line rest ∙ ap₂ (λ (l : List ℕ) (k : ℕ). sets l k rest) (sym p) (sym n);
    }

pub going_end : {rows : Level → Figures} {names was room : List ℕ} {to i : ℕ} → Going rows names was room to i → length names ≤ i
    → (to ≡ length (root_lines rows 0 names)) × (room ≡ sets was 0 (root_lines rows 0 names))
unfolding root_lines
going_end {rows} {names} {was} {room} {to} {i} w h =
    let none = ended names i h in (
      omega (arith, w.bytes, ap (λ (l : List ℕ). length (root_lines rows i l)) none),
      sym (w.text ∙ ap (λ (l : List ℕ). sets room to (root_lines rows i l)) none),
    )

-- ---- the table

pub firm-named : (xs : List ℕ) → get_or xs 2 0 ≡ (decode xs).part.profile.firm
firm-named xs = sym (ap (λ (s : State). s.part.profile.firm) (decode_is xs))

-- the table of a memory that no call refuses, with a whole account
pub table_is : (xs account : List ℕ) → 520 ≤ length account → memory_refusal xs ≡ 0
    → table_text xs account ≡ table_lines (decode xs).part.profile (row_of account)
unfolding table_text is_short_account
table_is xs account long ready = rw (le-ltb (length account) 520 long, ready)

module _ (xs account room : List ℕ) where
  -- what a table written to the front of a room is
  abbrev Put : ℕ → List ℕ → Type 0
  Put r now = (r ≤ 12_480) × ((r ≡ length (table_text xs account)) × (now ≡ sets room 0 (table_text xs account)))

  nothing : table_text xs account ≡ [] → Put 0 room
  nothing e = (omega arith, (rw e, rw e))

  pub none-short : length account < 520 → Put 0 room
  unfolding table_text is_short_account
  none-short h = nothing (rw (lt-ltb (length account) 520 h))

  module _ (long : 520 ≤ length account) {n : ℕ} (is : n ≡ memory_refusal xs) where
    pub none-refused : (n ≡ 0 → ⊥) → Put 0 room
    unfolding table_text is_short_account
    none-refused h = nothing (rw (le-ltb (length account) 520 long, ← is, ne_eqb _ 0 h))

    -- the roots' lines are written, and then the firm's
    pub written : n ≡ 0 → {mid now : List ℕ} {to r : ℕ} → to ≤ 12_288 → to ≡ length (root_lines (row_of account) 0 (decode xs).part.profile.roots)
        → mid ≡ sets room 0 (root_lines (row_of account) 0 (decode xs).part.profile.roots) → r ≤ to + 192
        → r ≡ to + length (name_bytes (get_or xs 2 0) ++ spaced (take 8 (drop 512 account)))
        → now ≡ sets mid to (name_bytes (get_or xs 2 0) ++ spaced (take 8 (drop 512 account))) → Put r now
    unfolding table_lines row_place
    written met {mid} {now} {to} {r} few size text short size' text' =
        let roots = root_lines (row_of account) 0 (decode xs).part.profile.roots in
        let line = name_bytes (get_or xs 2 0) ++ spaced (take 8 (drop 512 account)) in
        let firm : line ≡ row_line (decode xs).part.profile.firm (row_of account Firm) =
        row-bytes account 512 (omega arith) (get_or xs 2 0) ∙ ap (λ (name : ℕ). row_line name (row_of account Firm)) (firm-named xs)
        in
        let all : roots ++ line ≡ table_text xs account = ap (λ (l : List ℕ). roots ++ l) firm ∙ sym (table_is xs account long (sym is ∙ met)) in
        let both = then-written room roots line 0 (size ∙ sym (zero-add _)) text size' text' in
        (omega arith, (both.0 ∙ zero-add _ ∙ ap length all, both.1 ∙ ap (sets room 0) all))
