-- The reply to each answer of a desk, and to its faults.
use Rattle.std.specs.Prelude.{ℕ, List, codes}
use Rattle.onix_records.specs.declared.faults.StoreFault.{StoreFault}
use Rattle.onix_records.specs.declared.faults.StoreFault.TheVariants.{Disk, Memory, Size, Unusable}
use Rattle.series_rules.specs.declared.answers.AgreeAnswer.{AgreeAnswer}
use Rattle.series_rules.specs.declared.answers.AgreeAnswer.TheVariants.{Agreed}
use Rattle.series_rules.specs.declared.answers.DeliveryAnswer.{DeliveryAnswer}
use Rattle.series_rules.specs.declared.answers.DeliveryAnswer.TheVariants as delivery
use Rattle.series_rules.specs.declared.answers.WaiveAnswer.{WaiveAnswer}
use Rattle.series_rules.specs.declared.answers.WaiveAnswer.TheVariants as waiver
use Rattle.series_rules.specs.declared.answers.Answer.{Answer}
use Rattle.series_rules.specs.declared.answers.Answer.TheVariants.{Agreement, BadRange, Delivery, Malformed, UnknownSeries, Waiver}
use Rattle.desk_http.specs.AnswerJson.{answer_json}
use Rattle.desk_http.specs.Json.{fault}
use Rattle.desk_http.specs.Reply.{Reply, reply_of}

-- an agreement stands, or clashes with one that stands
abbrev pub agree_status : AgreeAnswer → ℕ
agree_status Agreed = 200
agree_status _ = 409

-- a message is applied; it waits for another; its number has something else; or it cannot be taken
-- as it is
abbrev pub delivery_status : DeliveryAnswer → ℕ
delivery_status (delivery.Applied series n e) = 200
delivery_status (delivery.Held series n next) = 202
delivery_status (delivery.Waived series n) = 409
delivery_status (delivery.OtherContents series n) = 409
delivery_status _ = 422

-- no such series; a number that the series cannot have; a number that a message has; or the number
-- is waived
abbrev pub waiver_status : WaiveAnswer → ℕ
waiver_status waiver.UnknownSeries = 404
waiver_status (waiver.BeforeFirst first) = 422
waiver_status waiver.Had = 409
waiver_status waiver.Waived = 200

-- the status of an answer: 200; 202 held; 400 a bad range; 404 the unknown series of a question or
-- a waiver; 409 what clashes with what stands; 422 what cannot be taken as it is
abbrev pub status_of : Answer → ℕ
status_of (Agreement name first a) = agree_status a
status_of (Delivery a) = delivery_status a
status_of (Waiver series n a) = waiver_status a
status_of BadRange = 400
status_of UnknownSeries = 404
status_of (Malformed row) = 422
status_of _ = 200

-- the reply to an answer: its status and its JSON without spaces
unfoldable pub reply_of_answer : Answer → Reply
reply_of_answer a = reply_of (status_of a) (answer_json a)

-- the kind of a fault of storage
abbrev pub fault_kind : StoreFault → List ℕ
fault_kind Memory = codes "memory"
fault_kind Size = codes "size"
fault_kind Disk = codes "disk"
fault_kind Unusable = codes "unusable"

-- the reply where a fault of storage comes in the place of an answer
abbrev pub reply_of_fault : StoreFault → Reply
reply_of_fault f = reply_of 503 (fault (fault_kind f))
