-- What holds of every record: reading and writing undo each other, a record is refused exactly if it is no valid event's, and the example of
-- document 01. Assumes nothing.
use Prim.Native.Nat.{ℕ, ◌<◌}
use mathlib.Core.Path.{◌≡◌, refl, sym, ap, ◌∙◌}
use mathlib.Core.Bool.{Bool, true, false, cond}
use mathlib.Core.List.{List, [], ◌∷◌}
use lib.ListN.{get_or}
use native.Mathlib.Omega.{arith}
use Rattle.bits.specs.Fields.{total, packed, unpacked, eights, bytes_of}
use Rattle.records.specs.declared.Event.{Event}
use Rattle.records.specs.declared.Event.TheVariants.{Offer}
use Rattle.std.specs.declared.result.Result.TheVariants.{Ok, Err}
use Rattle.refusals.specs.declared.Refusal.TheVariants.{FaultyRecord}
use Rattle.refusals.specs.Numbers.{refused_with}
use Rattle.records.specs.Form.{accepts, event_at, record_of}
use Rattle.records.specs.Event.{values_of, is_valid, form, read_of}
use Rattle.records.proofs.Round.{read_again_lem, write_again}
use Rattle.records.proofs.Forms.{lawful}

-- an event that is written is read again

pub read-written : (e : Event) → is_valid e ≡ true → read_of (record_of form e) ≡ Ok e
unfolding read_of
read-written e h = let r = read_again_lem form lawful e h in rw (r.0, r.1)

picked : (b : Bool) (x e : Event) → cond b (Ok x) (Err FaultyRecord) ≡ Ok e → (b ≡ true) × (x ≡ e)
picked true x e h = (refl, cc)
picked false x e h = absurd (cc)

-- what is read is valid, and written again as the same bytes
pub written_read : (s : List ℕ) (e : Event) → ((i : ℕ) → get_or s i 0 < 256) → read_of s ≡ Ok e → (is_valid e ≡ true) × (record_of form e ≡ s)
unfolding read_of
written_read s e b h =
    let p = picked (accepts form s) (event_at form s) e h in
    let q = write_again form lawful s b p.0 in
    (ap is_valid (sym p.1) ∙ q.0, ap (record_of form) (sym p.1) ∙ q.1)

-- bytes are refused with 16 exactly if they are the record of no valid event
pub refused_none : (s : List ℕ) (e : Event) → refused_with (read_of s) ≡ 16 → is_valid e ≡ true → record_of form e ≡ s → ⊥
refused_none s e f h r = let z : ◌≡◌ {A = ℕ} 0 16 = sym (ap refused_with (read-written e h)) ∙ ap (λ (x : List ℕ). refused_with (read_of x)) r ∙ f in omega arith

pub none-refused : (s : List ℕ) → ((i : ℕ) → get_or s i 0 < 256) → ((e : Event) → is_valid e ≡ true → record_of form e ≡ s → ⊥) → refused_with (read_of s) ≡ 16
unfolding read_of
none-refused s b free = go (accepts form s) refl
  where
    go : (t : Bool) → accepts form s ≡ t → refused_with (read_of s) ≡ 16
    go true p = let q = written_read s (event_at form s) b (rw p) in absurd (free _ q.0 q.1)
    go false p = rw p

-- an offer at 10 ms, root 0, unit 0, premium 70,000, 200 contracts
pub example : record_of form (Offer 10 0 0 70_000 200)
    ≡ 0x40 ∷ 0x00 ∷ 0x00 ∷ 0x50 ∷ 0x00 ∷ 0x01 ∷ 0x11 ∷ 0x70 ∷ 0x00 ∷ 0x0C ∷ 0x80 ∷ 0x00 ∷ []
unfolding record_of values_of bytes_of unpacked packed total eights
example = refl
