-- `grant::inside_at` meets its contract: the log's table has the state's entries. Assumes nothing.
use Prim.Native.Nat.{ℕ}
use mathlib.Core.Path.{ap, ap₂, ◌∙◌}
use mathlib.Core.List.{List}
use Rattle.machine.specs.declared.Entry.{Entry}
use Rattle.machine.specs.Entries.{are_ordered}
use Rattle.daylog.specs.Inner.Reading.{window_reading}
use Rattle.state.proofs.Laid.{laid-held, laid-entries}
use Rattle.grant.specs.Inner.Grant.{inside_of}
use Rattle.grant.proofs.inside_at.Goals as goal

pub read_window-read-requires : goal.read_window-read-requires
read_window-read-requires c =
    let s = c in
    (laid-held s.requires.0, ap (are_ordered 0 s.args.time) (laid-entries s.requires.0) ∙ s.requires.1)

pub returns : goal.returns
unfolding inside_of
returns c =
    let s = c in
    let window = c.longest_window-window.ensures in
    let read = c.read_window-read.ensures ∙ ap₂ (λ (w : ℕ) (l : List Entry). window_reading w s.args.time l) window (laid-entries s.requires.0) in
    λ i. record { window = window i; read = read i }
