-- No two answers are told as the same, so that what is told of a reading is one answer. Assumes nothing.
use Rattle.std.proofs.Common.{◌≡◌, ap, Result}
use Rattle.std.specs.declared.result.Result.TheVariants.{Ok, Err}
use Rattle.refusals.specs.Numbers.{refusal_number}
use Rattle.refusals.proofs.Once.{one_refusal}
use Rattle.profile.specs.declared.Armed.{Armed}
use Rattle.profile.specs.declared.Fault.{Fault}
use Rattle.profile.specs.declared.Scan.{Scan}
use Rattle.profile.specs.Reading.{Accepted, Refused, reading_told}
use Rattle.profile.specs.Profile.{Scanned, scan_told}

one_armed : (a b : Armed) → Accepted a.firm a.rules a.roots ≡ Accepted b.firm b.rules b.roots → a ≡ b
one_armed a b e =
    let firm : a.firm ≡ b.firm = cc in
    let rules : a.rules ≡ b.rules = cc in
    let roots : a.roots ≡ b.roots = cc in
    λ i. record { firm = firm i; rules = rules i; roots = roots i }

one_fault : (a b : Fault) → Refused (refusal_number a.refusal) a.line ≡ Refused (refusal_number b.refusal) b.line → a ≡ b
one_fault a b e =
    let number : refusal_number a.refusal ≡ refusal_number b.refusal = cc in
    let refusal : a.refusal ≡ b.refusal = one_refusal a.refusal b.refusal number in
    let line : a.line ≡ b.line = cc in
    λ i. record { refusal = refusal i; line = line i }

pub one_reading : (a b : Result Armed Fault) → reading_told a ≡ reading_told b → a ≡ b
one_reading (Ok a) (Ok b) e = ap Ok (one_armed a b e)
one_reading (Err a) (Err b) e = ap Err (one_fault a b e)
one_reading (Ok a) (Err b) e = cc
one_reading (Err a) (Ok b) e = cc

pub one_scan : (a b : Scan) → scan_told a ≡ scan_told b → a ≡ b
one_scan a b e =
    let reading : a.reading ≡ b.reading = one_reading a.reading b.reading (ap (λ (s : Scanned). s.reading) e) in
    λ i. record { reading = reading i; roots = (e i).roots; rules = (e i).rules }
