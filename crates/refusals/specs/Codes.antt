-- The number of each refusal, and what an answer tells of its refusal as a number: 0 where there is none. Definitions only.
pub mod Same
use Rattle.std.specs.Prelude.{ℕ, Result, Ok, Err}
use Rattle.refusals.specs.declared.Refusal.{Refusal}
use Rattle.refusals.specs.declared.Refusal.TheVariants.{BadState, TooLarge, CounterFull, TooMany, BadRecord, BadLevel, BadVector, BadEstimate, NoRoom, BadLog, DuplicateNumber}
use Rattle.refusals.specs.Refusals.{none, bad_state, too_large, counter_full, too_many, bad_record, bad_level, bad_vector, bad_estimate, no_room, bad_log, duplicate_number}

abbrev pub number_of : Refusal → ℕ
number_of BadState = bad_state
number_of TooLarge = too_large
number_of CounterFull = counter_full
number_of TooMany = too_many
number_of BadRecord = bad_record
number_of BadLevel = bad_level
number_of BadVector = bad_vector
number_of BadEstimate = bad_estimate
number_of NoRoom = no_room
number_of BadLog = bad_log
number_of DuplicateNumber = duplicate_number

abbrev pub code : {A : Type 0} → Result A Refusal → ℕ
code (Ok _) = none
code (Err e) = number_of e
