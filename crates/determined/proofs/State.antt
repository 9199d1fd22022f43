-- The contracts of `state` determine what a call gives: one theorem for each public function. Assumes nothing.
use mathlib.Core.Path.{refl}
use Rattle.determined.specs.Determines.{Determines}
use Rattle.laws.proofs.One.{alike}
use Rattle.state.proofs.copy.Kinds as copy-kinds
use Rattle.state.proofs.copy.Reads as copy-reads
use Rattle.state.proofs.write_armed.Kinds as write-armed-kinds
use Rattle.state.proofs.write_armed.Reads as write-armed-reads
use Rattle.state.proofs.is_sound.Kinds as is-sound-kinds
use Rattle.state.proofs.is_sound.Reads as is-sound-reads
use Rattle.state.proofs.clock_in.Kinds as clock-in-kinds
use Rattle.state.proofs.clock_in.Reads as clock-in-reads
use Rattle.state.proofs.roots_in.Kinds as roots-in-kinds
use Rattle.state.proofs.roots_in.Reads as roots-in-reads
use Rattle.state.proofs.name_in.Kinds as name-in-kinds
use Rattle.state.proofs.name_in.Reads as name-in-reads
use Rattle.state.proofs.entries_in.Kinds as entries-in-kinds
use Rattle.state.proofs.entries_in.Reads as entries-in-reads
use Rattle.state.proofs.rules_in.Kinds as rules-in-kinds
use Rattle.state.proofs.rules_in.Reads as rules-in-reads
use Rattle.state.proofs.rule_in.Kinds as rule-in-kinds
use Rattle.state.proofs.rule_in.Reads as rule-in-reads
use Rattle.state.proofs.account_at.Kinds as account-at-kinds
use Rattle.state.proofs.account_at.Reads as account-at-reads
use Rattle.state.proofs.total_in.Kinds as total-in-kinds
use Rattle.state.proofs.total_in.Reads as total-in-reads
use Rattle.state.proofs.put_total.Kinds as put-total-kinds
use Rattle.state.proofs.put_total.Reads as put-total-reads
use Rattle.state.proofs.put_clock.Kinds as put-clock-kinds
use Rattle.state.proofs.put_clock.Reads as put-clock-reads
use Rattle.state.proofs.longest_window.Kinds as longest-window-kinds
use Rattle.state.proofs.longest_window.Reads as longest-window-reads
use Rattle.state.proofs.used_at.Kinds as used-at-kinds
use Rattle.state.proofs.used_at.Reads as used-at-reads
use Rattle.state.proofs.uses_less.Kinds as uses-less-kinds
use Rattle.state.proofs.uses_less.Reads as uses-less-reads
use Rattle.state.proofs.orders_in.Kinds as orders-in-kinds
use Rattle.state.proofs.orders_in.Reads as orders-in-reads
use Rattle.state.proofs.covering.covers_at.Kinds as covers-at-kinds
use Rattle.state.proofs.covering.covers_at.Reads as covers-at-reads
use Rattle.state.proofs.covering.rises_at.Kinds as rises-at-kinds
use Rattle.state.proofs.covering.rises_at.Reads as rises-at-reads
use Rattle.state.proofs.covering.accounts_at.Kinds as accounts-at-kinds
use Rattle.state.proofs.covering.accounts_at.Reads as accounts-at-reads

pub copy : Determines 2 copy-kinds.ps copy-kinds.r copy-reads.Asked copy-reads.Learnt
copy κs args asked x y u v p q = (refl, λ i. (v.0, (alike p q i, v.1.1)))

pub write-armed : Determines 3 write-armed-kinds.ps write-armed-kinds.r write-armed-reads.Asked write-armed-reads.Learnt
write-armed κs args asked x y u v p q = (refl, λ i. (alike p q i, v.1))

pub is-sound : Determines 1 is-sound-kinds.ps is-sound-kinds.r is-sound-reads.Asked is-sound-reads.Learnt
is-sound κs args asked x y u v p q = (alike p q, refl)

pub clock-in : Determines 1 clock-in-kinds.ps clock-in-kinds.r clock-in-reads.Asked clock-in-reads.Learnt
clock-in κs args asked x y u v p q = (alike p q, refl)

pub roots-in : Determines 1 roots-in-kinds.ps roots-in-kinds.r roots-in-reads.Asked roots-in-reads.Learnt
roots-in κs args asked x y u v p q = (alike p q, refl)

pub name-in : Determines 1 name-in-kinds.ps name-in-kinds.r name-in-reads.Asked name-in-reads.Learnt
name-in κs args asked x y u v p q = (alike p q, refl)

pub entries-in : Determines 1 entries-in-kinds.ps entries-in-kinds.r entries-in-reads.Asked entries-in-reads.Learnt
entries-in κs args asked x y u v p q = (alike p q, refl)

pub rules-in : Determines 1 rules-in-kinds.ps rules-in-kinds.r rules-in-reads.Asked rules-in-reads.Learnt
rules-in κs args asked x y u v p q = (alike p q, refl)

pub rule-in : Determines 1 rule-in-kinds.ps rule-in-kinds.r rule-in-reads.Asked rule-in-reads.Learnt
rule-in κs args asked x y u v p q = (alike p q, refl)

pub account-at : Determines 1 account-at-kinds.ps account-at-kinds.r account-at-reads.Asked account-at-reads.Learnt
account-at κs args asked x y u v p q = (alike p q, refl)

pub total-in : Determines 1 total-in-kinds.ps total-in-kinds.r total-in-reads.Asked total-in-reads.Learnt
total-in κs args asked x y u v p q = (alike p q, refl)

pub put-total : Determines 1 put-total-kinds.ps put-total-kinds.r put-total-reads.Asked put-total-reads.Learnt
put-total κs args asked x y u v p q = (refl, λ i. (alike p q i, v.1))

pub put-clock : Determines 1 put-clock-kinds.ps put-clock-kinds.r put-clock-reads.Asked put-clock-reads.Learnt
put-clock κs args asked x y u v p q = (refl, λ i. (alike p q i, v.1))

pub longest-window : Determines 1 longest-window-kinds.ps longest-window-kinds.r longest-window-reads.Asked longest-window-reads.Learnt
longest-window κs args asked x y u v p q = (alike p q, refl)

pub used-at : Determines 1 used-at-kinds.ps used-at-kinds.r used-at-reads.Asked used-at-reads.Learnt
used-at κs args asked x y u v p q = (alike p q, refl)

pub uses-less : Determines 1 uses-less-kinds.ps uses-less-kinds.r uses-less-reads.Asked uses-less-reads.Learnt
uses-less κs args asked x y u v p q = (alike p q, refl)

pub orders-in : Determines 1 orders-in-kinds.ps orders-in-kinds.r orders-in-reads.Asked orders-in-reads.Learnt
orders-in κs args asked x y u v p q = (alike p q, refl)

pub covers-at : Determines 1 covers-at-kinds.ps covers-at-kinds.r covers-at-reads.Asked covers-at-reads.Learnt
covers-at κs args asked x y u v p q = (alike p q, refl)

pub rises-at : Determines 1 rises-at-kinds.ps rises-at-kinds.r rises-at-reads.Asked rises-at-reads.Learnt
rises-at κs args asked x y u v p q = (alike p q, refl)

pub accounts-at : Determines 1 accounts-at-kinds.ps accounts-at-kinds.r accounts-at-reads.Asked accounts-at-reads.Learnt
accounts-at κs args asked x y u v p q = (alike p q, refl)
