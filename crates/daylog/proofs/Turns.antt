-- The log's entries rewritten in their places, one after the other, and the places after them set to 0. Assumes nothing.
use Prim.Native.Nat.{ℕ, suc, ◌+◌, ◌*◌, ◌-◌, ◌≤◌, ◌<◌, zero-le}
use mathlib.Core.Path.{◌≡◌, refl, sym, ap, ◌∙◌}
use mathlib.Core.Bool.{true}
use mathlib.Core.List.{List, [], ◌∷◌, ◌++◌, append_assoc, append-nil}
use native.Mathlib.Numerals.{add-one}
use native.Mathlib.Omega.{arith}
use lib.ListN.{length, get_or, take, drop, set, length-append, length-drop, drop_of_length-le}
use lib.Seq.{sets, drop-cons, get_or-append-add, get_or-drop, set_at, append_snoc, take_at, drop_at, length-take-le}
use Rattle.tables.specs.Inner.Tables.{zeros, flat, table_numbers}
use Rattle.laws.specs.Folds.{every}
use Rattle.laws.proofs.Every.{every_first, every_drop, every_append, every-join}
use Rattle.machine.specs.Entries.{is_entry}
use Rattle.machine.specs.declared.Entry.{Entry}
use Rattle.packing.specs.EntryPlace.{entry_at, entry_numbers, is_entry_place, log_table}
use Rattle.shapes.proofs.Tables.{length-zeros}
use Rattle.tables.proofs.Tables.{length-flat, length-places, length-table, place-table, read_table, put-at, put_next}
use Rattle.tables.proofs.AllZero.{zeros-add}
use Rattle.daylog.specs.Inner.Log.{HeldLog, entries_of, last_of, joined_entries, Left}
use Rattle.daylog.proofs.Logs.{codec, held-valid, held-table}

-- a list p and then another from p's length on: what stands past p, one more at p's end, and how long they are
module _ {A : Type 0} (d : A) (p q : List A) (j : ℕ) (l : length p ≡ j) where
  past : (i : ℕ) → j ≤ i → get_or (p ++ drop j q) i d ≡ get_or q i d
  past i h =
      let a : length p + (i - j) ≡ i = omega arith in
      let b : j + (i - j) ≡ i = omega arith in
      ap (λ (n : ℕ). get_or (p ++ drop j q) n d) (sym a)
      ∙ get_or-append-add p (drop j q) (i - j) d ∙ get_or-drop j q (i - j) d ∙ ap (λ (n : ℕ). get_or q n d) b

  pub more : (a : A) → j < length q → set (p ++ drop j q) j a ≡ (p ++ (a ∷ [])) ++ drop (j + 1) q
  more a h = rw (drop-cons q j d h, set_at p (get_or q j d) (drop (suc j) q) a j l, add-one, append_snoc p a (drop (suc j) q))

  overlaid : j ≤ length q → length (p ++ drop j q) ≡ length q
  overlaid h = omega (arith, length-append p (drop j q), length-drop j q)

-- of the k entries in xs the first i went through `out`: what came of them stands in the first j places of ys, and after it those from place j on
pub record Turned (out : List Entry → List Entry) (k : ℕ) (xs : List ℕ) (i j : ℕ) (ys : List ℕ) : Type 0 where
  pub made : List Entry
  pub count : length made ≡ j
  pub within : j ≤ i
  pub valid : every (is_entry 64) made ≡ true
  pub whole : made ++ out (drop i (entries_of k xs)) ≡ out (entries_of k xs)
  pub log : ys ≡ log_table (made ++ drop j (entries_of k xs))

pub turned_none : {k : ℕ} {xs : List ℕ} (out : List Entry → List Entry) → HeldLog k xs → Turned out k xs 0 0 xs
unfolding every
turned_none out h = record { made = []; count = refl; within = zero-le; valid = refl; whole = refl; log = held-table h }

module _ {out : List Entry → List Entry} {k : ℕ} {xs : List ℕ} {i j : ℕ} {ys : List ℕ} (h : HeldLog k xs) (t : Turned out k xs i j ys) where
  abbrev stands : List Entry
  stands = t.made ++ drop j (entries_of k xs)

  stands-valid : every (is_entry 64) stands ≡ true
  stands-valid =
      every_append (is_entry 64) t.made (drop j (entries_of k xs)) t.valid (every_drop (is_entry 64) (entries_of k xs) j (held-valid h))

  stands-long : i < k → i < length stands
  stands-long l =
      let long = length-places codec k xs in
      omega (arith, overlaid (entry_at []) t.made (entries_of k xs) j t.count (omega (arith, t.within)))

  -- the next place still holds its entry, which is the next of all
  pub turned-place : i < k → is_entry_place 64 (drop (i * 2) ys) ≡ true
  turned-place l = ap (λ (l : List ℕ). is_entry_place 64 (drop (i * 2) l)) t.log ∙ place-table codec 512 stands i (entry_at []) stands-valid (stands-long l)

  pub turned-next : {e : Entry} → i < k → e ≡ entry_at (drop (i * 2) ys) → drop i (entries_of k xs) ≡ e ∷ drop (i + 1) (entries_of k xs)
  turned-next {e = e} l is =
      let d = entry_at [] in
      let es = entries_of k xs in
      let long : i < length es = rw (length-places codec k xs) l in
      let at : e ≡ get_or es i d =
      is ∙ ap (λ (l : List ℕ). entry_at (drop (i * 2) l)) t.log
      ∙ read_table codec 512 stands i d stands-valid (stands-long l) ∙ past d t.made es j t.count i t.within in
      rw (add-one i, at) (drop-cons es i d long)

  pub turned-entry : {e : Entry} → i < k → e ≡ entry_at (drop (i * 2) ys) → is_entry 64 e ≡ true
  turned-entry {e = e} l is =
      let es = entries_of k xs in
      every_first (is_entry 64) e (drop (i + 1) es) (rw (turned-next l is) at (every_drop (is_entry 64) es i (held-valid h)))

  -- it leads to one entry, or to none
  pub turned-put : {a : Entry} {zs : List ℕ} → i < k → is_entry 64 a ≡ true → out (drop i (entries_of k xs)) ≡ a ∷ out (drop (i + 1) (entries_of k xs))
      → zs ≡ sets ys (j * 2) (entry_numbers a) → Turned out k xs (i + 1) (j + 1) zs
  unfolding every
  turned-put {a = a} {zs = zs} l ok gives is =
      let d = entry_at [] in
      let es = entries_of k xs in
      let inside : j < length es = omega (arith, t.within, length-places codec k xs) in
      let rs = t.made ++ drop j es in
      let long : j < length rs = omega (arith, overlaid d t.made es j t.count (omega arith)) in
      record {
        made = t.made ++ (a ∷ []);
        count = length-append t.made (a ∷ []) ∙ ap (λ (n : ℕ). n + 1) t.count;
        within = omega (arith, t.within);
        valid = every-join (is_entry 64) t.made a t.valid ok;
        whole = append_assoc t.made (a ∷ []) (out (drop (i + 1) es)) ∙ ap (λ (l : List Entry). t.made ++ l) (sym gives) ∙ t.whole;
        log =
            is ∙ ap (λ (l : List ℕ). sets l (j * 2) (entry_numbers a)) t.log
            ∙ put-at codec 512 rs j a long ∙ ap log_table (more d t.made es j t.count a inside);
      }

  pub turned-skip : out (drop i (entries_of k xs)) ≡ out (drop (i + 1) (entries_of k xs)) → Turned out k xs (i + 1) j ys
  turned-skip gives = record {
    made = t.made;
    count = t.count;
    within = omega (arith, t.within);
    valid = t.valid;
    whole = ap (λ (l : List Entry). t.made ++ l) (sym gives) ∙ t.whole;
    log = t.log;
  }

  -- all entries went through
  over : k ≤ i → drop i (entries_of k xs) ≡ []
  over l =
      let end : length (entries_of k xs) ≤ i = rw (length-places codec k xs) l in
      drop_of_length-le (entries_of k xs) end

  pub turned-made : k ≤ i → out [] ≡ [] → t.made ≡ out (entries_of k xs)
  turned-made l none = sym (append-nil t.made) ∙ ap (λ (l : List Entry). t.made ++ l) (sym (ap out (over l) ∙ none)) ∙ t.whole

pub flat_append : (p q : List Entry) → flat entry_numbers (p ++ q) ≡ flat entry_numbers p ++ flat entry_numbers q
unfolding flat
flat_append [] q = refl
flat_append (e ∷ p) q =
    ap (λ (l : List ℕ). entry_numbers e ++ l) (flat_append p q) ∙ sym (append_assoc (entry_numbers e) (flat entry_numbers p) (flat entry_numbers q))

-- the last places that are used, set to 0, are used no longer
blanked : (p q : List Entry) (from n : ℕ) → length (p ++ q) ≤ 512 → length p * 2 ≡ from → length q * 2 ≡ n
    → take from (log_table (p ++ q)) ++ (zeros n ++ drop n (drop from (log_table (p ++ q)))) ≡ log_table p
unfolding table_numbers
blanked p q from n h a b =
    let fp = flat entry_numbers p in
    let fq = flat entry_numbers q in
    let m = 512 * 2 - length (p ++ q) * 2 in
    let split : flat entry_numbers (p ++ q) ++ zeros m ≡ fp ++ (fq ++ zeros m) =
    ap (λ (l : List ℕ). l ++ zeros m) (flat_append p q) ∙ append_assoc fp fq (zeros m) in
    let la : length fp ≡ from = length-flat codec p ∙ a in
    let lb : length fq ≡ n = length-flat codec q ∙ b in
    let left : n + m ≡ 512 * 2 - length p * 2 = omega (arith, length-append p q) in
    rw (split, take_at fp (fq ++ zeros m) from la, drop_at fp (fq ++ zeros m) from la, drop_at fq (zeros m) n lb, zeros-add n m, left)

-- the entries p, which stand in front of the k in xs from place r on, are all that is left once the places up to the last used are set to 0
pub rest-blanked : {k r : ℕ} {xs ys bs : List ℕ} → HeldLog k xs → (p : List Entry) → length p ≡ r → r ≤ k → ys ≡ log_table (p ++ drop r (entries_of k xs))
    → bs ≡ zeros (length (take (k * 2 - r * 2) (drop (r * 2) ys)))
    → take (r * 2) ys ++ (bs ++ drop (k * 2 - r * 2) (drop (r * 2) ys)) ≡ log_table p
rest-blanked {k = k} {r = r} {xs = xs} {ys = ys} h p count most log is =
    let es = entries_of k xs in
    let n = k * 2 - r * 2 in
    let all = length-places codec k xs in
    let long : length (p ++ drop r es) ≡ k = overlaid (entry_at []) p es r count (omega (arith, all)) ∙ all in
    let size : length ys ≡ 1024 = ap length log ∙ length-table codec 512 (p ++ drop r es) (omega (arith, h.fits)) in
    let many : length (take n (drop (r * 2) ys)) ≡ n = length-take-le n (drop (r * 2) ys) (omega (arith, length-drop (r * 2) ys, h.fits)) in
    let rest : length (drop r es) * 2 ≡ n = omega (arith, length-drop r es) in
    rw (is, many, log) (blanked p (drop r es) (r * 2) n (omega (arith, h.fits)) (ap (λ (m : ℕ). m * 2) count) rest)

-- an entry put after those that stay
pub joined-log : (es : List Entry) {r : ℕ} {ys zs : List ℕ} → Left (last_of r es) ys r → r < 512 → (e : Entry) → zs ≡ sets ys (r * 2) (entry_numbers e)
    → Left (joined_entries r e es) zs (r + 1)
joined-log es {r} kept room e is =
    let rs = last_of r es in
    let many : length rs ≡ r = sym kept.count in
    record {
      count = sym (length-append rs (e ∷ []) ∙ ap (λ (n : ℕ). n + 1) many);
      log =
          is ∙ ap (λ (l : List ℕ). sets l (r * 2) (entry_numbers e)) kept.log
          ∙ ap (λ (n : ℕ). sets (log_table rs) (n * 2) (entry_numbers e)) (sym many) ∙ put_next codec 512 rs e (omega (arith, many));
    }

-- numbers set to 0, one after the other
pub zeros-more : (s : List ℕ) (i : ℕ) → i < length s → set (zeros i ++ drop i s) i 0 ≡ zeros (i + 1) ++ drop (i + 1) s
unfolding zeros
zeros-more s i h = more 0 (zeros i) s i (length-zeros i) 0 h ∙ ap (λ (l : List ℕ). l ++ drop (i + 1) s) (zeros-add i 1)

pub zeros-done : (s : List ℕ) (i : ℕ) → length s ≡ i → zeros i ++ drop i s ≡ zeros (length s)
zeros-done s i h =
    let end : length s ≤ i = omega arith in
    rw (drop_of_length-le s end, append-nil (zeros i), h)
