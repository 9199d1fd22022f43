-- `state::write_armed` meets its contract: each write takes the place of what stood there, and what is past the state stays. Assumes nothing.
use Prim.Native.Nat.{ℕ, ◌-◌}
use mathlib.Core.Path.{◌≡◌, refl, ap, ◌∙◌}
use mathlib.Core.List.{List, [], ◌∷◌, ◌++◌}
use lib.ListN.{length, take, drop}
use lib.Seq.{length-take-le}
use Rattle.tables.specs.Inner.Tables.{zeros}
use Rattle.state.proofs.Writes.{writes}
use Rattle.state.specs.State.{rest_size, totals_at}
use Rattle.state.proofs.write_armed.Goals as goal

pub returns : goal.returns
returns c =
    let s = c in
    let a = s.args in
    let p = s.requires in
    let m1 = c.copy.new.to in
    let p2 = c.copy-2.new.to in
    let m2 = take 4 m1 ++ (p2 ++ drop (length m1 - 4) (drop 4 m1)) in
    let p3 = c.copy-3.new.to in
    let m3 = take 68 m2 ++ (p3 ++ drop (length m2 - 68) (drop 68 m2)) in
    let p4 = c.copy-4.new.to in
    let m4 = take 69 m3 ++ (p4 ++ drop (length m3 - 69) (drop 69 m3)) in
    let w =
    writes a.m.now (1 ∷ 0 ∷ a.firm ∷ a.roots ∷ []) a.names.now (a.rules ∷ []) a.table.now (zeros rest_size) p.0 refl p.1 refl p.2 m1 p2 m2 p3 m3 p4 m4
    c.copy.ensures c.copy-2.ensures refl c.copy-3.ensures refl c.copy-4.ensures refl in
    let e : c.blank.new.s ≡ zeros (length (take rest_size (drop totals_at m4))) = c.blank.ensures in
    ap (λ (zs : List ℕ). take totals_at m4 ++ (zs ++ drop rest_size (drop totals_at m4))) (e ∙ ap zeros (length-take-le rest_size (drop totals_at m4) w.0)) ∙ w.1
