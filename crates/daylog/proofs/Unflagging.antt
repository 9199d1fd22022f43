-- The log's entries without some flags, moved to the front where they keep one. Assumes nothing.
use Prim.Native.Nat.{ℕ, ◌+◌, ◌*◌, ◌-◌, ◌<◌}
use mathlib.Core.Path.{◌≡◌, refl, sym, ap, ◌∙◌}
use mathlib.Core.Bool.{Bool, true, false, cond}
use mathlib.Core.List.{List, [], ◌∷◌, ◌++◌}
use native.Mathlib.Omega.{arith}
use lib.ListN.{length, get_or, take, drop}
use lib.Seq.{sets}
use Rattle.laws.specs.Folds.{keep}
use Rattle.rules.specs.declared.Level.{Level}
use Rattle.machine.specs.Entries.{is_flagged}
use Rattle.machine.specs.declared.Entry.{Entry}
use Rattle.machine.specs.Order.{unflagged, unflagged_log}
use Rattle.tables.specs.Inner.Tables.{zeros}
use Rattle.packing.specs.EntryPlace.{amount_values, entry_at, entry_numbers, log_table}
use Rattle.daylog.specs.Inner.Log.{HeldLog, Left, entries_of}
use Rattle.daylog.specs.Inner.Sieve.{fill_number, has_flag, without_flags}
use Rattle.daylog.proofs.Logs.{place-numbers}
use Rattle.daylog.proofs.Flags.{unflagged-entry, unflagged-fill, fill-flagged}
use Rattle.daylog.proofs.Turns.{Turned, turned-place, turned-next, turned-entry, turned-put, turned-skip, turned-made, rest-blanked}

-- the next entry stays without these flags, or leaves
kept_next : (zeroes : Level → Bool) (e : Entry) (es : List Entry) → is_flagged (unflagged zeroes e) ≡ true
    → unflagged_log zeroes (e ∷ es) ≡ unflagged zeroes e ∷ unflagged_log zeroes es
unfolding unflagged_log keep
kept_next zeroes e es h = rw h

gone-next : (zeroes : Level → Bool) (e : Entry) (es : List Entry) → is_flagged (unflagged zeroes e) ≡ false → unflagged_log zeroes (e ∷ es) ≡ unflagged_log zeroes es
unfolding unflagged_log keep
gone-next zeroes e es h = rw h

module _ (zeroes : Level → Bool) {k : ℕ} {xs : List ℕ} {i j : ℕ} {ys : List ℕ} (h : HeldLog k xs) (t : Turned (unflagged_log zeroes) k xs i j ys) where
  pub unflag-turn : {fill n : ℕ} {zs : List ℕ} → i < k → length ys ≡ 1024 → fill ≡ without_flags zeroes (get_or ys (i * 2) 0)
      → n ≡ cond (has_flag fill) (j + 1) j
      → zs ≡ cond (has_flag fill) (sets ys (j * 2) (fill ∷ get_or ys (i * 2 + 1) 0 ∷ [])) ys
      → Turned (unflagged_log zeroes) k xs (i + 1) n zs
  unfolding entry_numbers amount_values unflagged fill_number
  unflag-turn {fill} {n} {zs} l size put count is = go (has_flag fill) (sym told) count is
    where
      e : Entry
      e = entry_at (drop (i * 2) ys)

      a : Entry
      a = unflagged zeroes e

      numbers : get_or ys (i * 2) 0 ∷ get_or ys (i * 2 + 1) 0 ∷ [] ≡ entry_numbers e
      numbers = place-numbers ys (i * 2) (omega (arith, h.fits)) (turned-place h t l)

      cleared : fill ≡ fill_number a
      cleared =
          put ∙ ap (without_flags zeroes) (ap (λ (ns : List ℕ). get_or ns 0 0) numbers)
          ∙ sym (unflagged-fill zeroes e (turned-entry h t l refl))

      told : has_flag fill ≡ is_flagged a
      told = ap has_flag cleared ∙ fill-flagged a (unflagged-entry zeroes e (turned-entry h t l refl))

      both : fill ∷ get_or ys (i * 2 + 1) 0 ∷ [] ≡ entry_numbers a
      both = λ m. cleared m ∷ get_or (numbers m) 1 0 ∷ []

      go : (b : Bool) → is_flagged a ≡ b → n ≡ cond b (j + 1) j → zs ≡ cond b (sets ys (j * 2) (fill ∷ get_or ys (i * 2 + 1) 0 ∷ [])) ys
          → Turned (unflagged_log zeroes) k xs (i + 1) n zs
      go true flag count is =
          let on =
          turned-put h t l (unflagged-entry zeroes e (turned-entry h t l refl)) (ap (unflagged_log zeroes) (turned-next h t l refl) ∙ kept_next zeroes e _ flag)
          (is ∙ ap (sets ys (j * 2)) both) in
          rw count on
      go false flag count is =
          let on = turned-skip h t (ap (unflagged_log zeroes) (turned-next h t l refl) ∙ gone-next zeroes e _ flag) in
          rw (count, is) on

  -- once all went through, and the places after those that stay are set to 0
  pub unflag-done : {bs : List ℕ} → i ≡ k → bs ≡ zeros (length (take (k * 2 - j * 2) (drop (j * 2) ys)))
      → Left (unflagged_log zeroes (entries_of k xs)) (take (j * 2) ys ++ (bs ++ drop (k * 2 - j * 2) (drop (j * 2) ys))) j
  unfolding unflagged_log keep
  unflag-done end is =
      let made = turned-made h t (omega arith) refl in
      record {
        count = sym t.count ∙ ap length made;
        log = rest-blanked h t.made t.count (omega (arith, t.within)) t.log is ∙ ap log_table made;
      }
