-- What the checker computes: each row of the bench table on the machine, from the profile's text to the last answer, and three offers of 40 under
-- a limit of 100. Assumes nothing.
use mathlib.Core.Path.{◌≡◌, refl}
use Prim.Native.Nat.{ℕ, ◌^◌}
use mathlib.Core.Bool.{Bool, true, false, ◌&&◌}
use mathlib.Core.List.{List, [], ◌∷◌, ◌++◌, map}
use lib.Dec.{ltb}
use Rattle.rules.specs.Units.{units_of, is_unit_of, place_in, scope_for, of_unit}
use Rattle.machine.specs.State.{cells_by, cells_of, rules_in, no_locks, fresh, armed}
use Rattle.machine.specs.Deeds.{clock_after}
use Rattle.machine.specs.Step.{accounts_after, locks_after, log_after, part_after, after}
use Rattle.rules.specs.Amounts.{number_of as amount_number, amount_in}
use Rattle.laws.specs.Lists.{same}
use Rattle.laws.specs.Folds.{every, sum_of, keep, any_of}
use Rattle.machine.specs.Effects.{resets, effect_of, zeroing, lifting}
use Rattle.machine.specs.Order.{wiped, unflagged, unflagged_log, level_named}
use Rattle.machine.specs.Entries.{flag_of, is_flagged, entry_share, recent}
use Rattle.rules.specs.Valid.{has_rate}
use Rattle.machine.specs.Calls.{Call, offer}
use Rattle.machine.specs.Locks.{is_tripped, is_by_user, is_locked, verdict_of, lifted, tripped_by, locked_out}
use Rattle.machine.specs.Offers.{counted, covers_offer, grant_of, same_level, trips_by, level_trips, credited, window_of, longest, entry_of, joined_log}
use Rattle.machine.specs.Refusals.{used, log_full, no_places, overdrawn, first_of, bad_time, is_root, refusal_of}
use Rattle.machine.specs.Register.{has_identity, is_open, sent_at, fill_of, sent_of, used_up, register_by, register_after, kept_places, no_sent}
use Rattle.machine.specs.Remaining.{no_account, rule_numbered, is_cell, cell_at, account_at, account_for, left_of, standing}
use Rattle.machine.specs.Judge.{filled, offered, sent_away, ordered, judged, unless, judge, step_in, step, numbers, is_refusal}
use Rattle.bits.specs.Locks.{bit, with_bit, without_bit, either, count, here, first, standing_of}
use Rattle.text.specs.Text.{bytes, all, onto, pieces, index_of, made, numeral, field_number, name_of}
use Rattle.line.specs.Line.{type_of, is_absolute, limits_of, limit_of, kind_of, time_of, letter_of, malformed, other_firm, out_of_range, level_clash, unit_clash, fault_of, scope_of, rule_of, line_of}
use Rattle.admission.specs.Admission.{how_many, is_firm_rule, on_unit, crowded}
use Rattle.profile.specs.Profile.{with_root, roots_with, numbered, joined, too_many, after_line, read_on, outcome_of, reading_of}
use Rattle.profile.specs.Reading.{Reading, Refused as NotRead}
use Rattle.rules.specs.Rules.{level_of, covers, is_rate, counts, counted_of, held, executions, added, ceiling, share}
use Rattle.rules.specs.Allowance.{largest, allowance, trips, is_passed, overruns}
use Rattle.rules.specs.declared.Rule.{Rule}
use Rattle.rules.specs.declared.Scope.TheVariants.{WholeRoot}
use Rattle.rules.specs.declared.Kind.TheVariants.{Absolute}
use Rattle.rules.specs.declared.Limit.TheVariants.{Volume}
use Rattle.machine.specs.Answer.{Judged}
use Rattle.demand.specs.Run.{after_call, run_from}
use Rattle.tables.specs.Inner.Tables.{zeros}
use Rattle.figures.specs.Happenings.{ordered_of, offered_of, reported_of, happening_of}
use Rattle.figures.specs.Figures as figures
use Rattle.figures.specs.Account as account
use Rattle.figures.specs.Account.{row_place, row_at, account_after, is_account}
use Rattle.accounted.specs.Accounted.{call_of, is_short_account}
use Rattle.bench.specs.Lent.{numbers_in}
use Rattle.bench.specs.Library.{hundred, forty}
use Rattle.bench.specs.Rows.{Row, calls_of, answers_then, machine_answers, seen, wanted}
use Rattle.bench.specs.Table.{bench_table, examples}
use Rattle.bench.specs.Away.{away_rows}
use Rattle.bench.specs.Tried.{tried, Fault, refused_texts}
use Rattle.bench.specs.Accounts.{AccountRow, account_rows}
use Rattle.bench.proofs.Counting.{lent_on, counted_on, answer_on, Counted, after_on, counted_from}

-- a row's text is of bytes, and its calls' numbers have 64 bits
abbrev pub is_text : List ℕ → Bool
is_text text = every (λ b. ltb b 256) text

abbrev pub is_day : List Call → Bool
is_day calls = every (λ c. every (λ x. ltb x (2 ^ 64)) (numbers_in c)) calls

abbrev pub fits : Row → Bool
fits row = is_text (bytes row.text) && is_day (calls_of row)

-- how a refused text is read, and how it has to be
abbrev pub read_as : Fault → Reading
read_as fault = reading_of (outcome_of (bytes fault.text))

abbrev pub said_as : Fault → Reading
said_as fault = NotRead fault.number fault.line

-- the rule of the profile of three offers
abbrev pub hundred_rule : Rule
hundred_rule = record { scope = WholeRoot 0; kind = Absolute; limit = Volume (record { 0 = 100 }) }

-- the calls of a row of the account on the machine, and what is seen of them
abbrev pub counted_by : AccountRow → Counted
counted_by row =
    counted_from
    (record {
      state = (run_from (record { now = armed (outcome_of (bytes row.text)).profile; history = [] }) row.before).now;
      account = row.account;
      history = [];
    })
    (map (λ c. c.0) row.day)

pub record SeenAccount : Type 0 where
  pub refusal : ℕ
  pub answers : List (List ℕ)
  pub left : List ℕ

abbrev pub seen_account : AccountRow → SeenAccount
seen_account row = record {
  refusal = (outcome_of (bytes row.text)).refusal;
  answers = map numbers (answers_then (counted_by row).history []);
  left = (counted_by row).account;
}

abbrev pub wanted_account : AccountRow → SeenAccount
wanted_account row = record { refusal = 0; answers = map (λ c. c.1) row.day; left = row.left }

-- every row is seen as wanted, and every faulty text is read so; of three such offers the first two are granted whole, and of the third 20
computed : (every fits (bench_table ++ (examples ++ tried)) ≡ true)
    × (map seen (bench_table ++ (examples ++ tried)) ≡ map wanted (bench_table ++ (examples ++ tried)))
    × (every (λ f. is_text (bytes f.text)) refused_texts ≡ true)
    × (map read_as refused_texts ≡ map said_as refused_texts)
    × ((outcome_of hundred).refusal ≡ 0)
    × ((outcome_of hundred).profile.rules ≡ hundred_rule ∷ [])
    × (machine_answers (armed (outcome_of hundred).profile) (offer forty ∷ offer forty ∷ offer forty ∷ [])
    ≡ Judged 0 40 false false ∷ Judged 0 40 false false ∷ Judged 0 20 true false ∷ [])
    × (map seen_account account_rows ≡ map wanted_account account_rows)
unfolding every bench_table examples tried away_rows account_rows call_of happening_of ordered_of offered_of reported_of figures.accepted figures.rejected figures.fills figures.contracts figures.notional figures.cuts figures.trip_at figures.trips_of figures.away figures.happening_root figures.figures_of figures.plus figures.row_numbers row_place row_at account.row_added account_after is_account is_short_account lent_on counted_on answer_on after_on counted_from is_refusal zeros refused_texts reading_of seen wanted after_call run_from answers_then machine_answers same bit with_bit without_bit either count here first standing_of level_named all onto pieces index_of made numeral field_number name_of type_of is_absolute limits_of limit_of kind_of time_of letter_of malformed other_firm out_of_range level_clash unit_clash fault_of scope_of rule_of line_of with_root roots_with numbered joined how_many is_firm_rule on_unit crowded too_many after_line read_on outcome_of level_of covers is_rate counts counted_of held executions added ceiling share zeroing lifting largest allowance trips is_passed overruns unflagged is_flagged flag_of entry_share sum_of keep recent has_rate units_of is_unit_of place_in scope_for of_unit cells_by cells_of rules_in no_locks fresh armed resets effect_of clock_after is_tripped is_by_user is_locked verdict_of lifted tripped_by locked_out wiped unflagged_log counted covers_offer grant_of any_of same_level trips_by level_trips credited window_of longest entry_of joined_log used log_full no_places overdrawn first_of bad_time is_root refusal_of left_of rule_numbered is_cell cell_at account_at account_for no_account standing accounts_after locks_after log_after register_by register_after has_identity is_open sent_at fill_of sent_of used_up kept_places no_sent part_after after filled sent_away offered ordered judged unless judge step_in step amount_number amount_in numbers
computed = (refl, refl, refl, refl, refl, refl, refl, refl)

pub rows_fit : every fits (bench_table ++ (examples ++ tried)) ≡ true
rows_fit = computed.0

pub rows_right : map seen (bench_table ++ (examples ++ tried)) ≡ map wanted (bench_table ++ (examples ++ tried))
rows_right = computed.1

pub texts-fit : every (λ f. is_text (bytes f.text)) refused_texts ≡ true
texts-fit = computed.2

pub texts-read : map read_as refused_texts ≡ map said_as refused_texts
texts-read = computed.3

pub hundred-read : (outcome_of hundred).refusal ≡ 0
hundred-read = computed.4

pub hundred-rule : (outcome_of hundred).profile.rules ≡ hundred_rule ∷ []
hundred-rule = computed.5

pub forties : machine_answers (armed (outcome_of hundred).profile) (offer forty ∷ offer forty ∷ offer forty ∷ [])
    ≡ Judged 0 40 false false ∷ Judged 0 40 false false ∷ Judged 0 20 true false ∷ []
forties = computed.6

pub accounts-right : map seen_account account_rows ≡ map wanted_account account_rows
accounts-right = computed.7
