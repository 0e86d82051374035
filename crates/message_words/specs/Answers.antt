-- What an open session answers, compared with the words about it.
use Rattle.std.specs.Prelude.{◌≡◌, Bool, true, false, Option, Some, None}
use Rattle.pcep_messages.specs.declared.fault.About.{About}
use Rattle.pcep_messages.specs.declared.fault.MessageFault.{MessageFault}
use Rattle.pcep_messages.specs.declared.notice.Notice.TheVariants.{Close}
use Rattle.pcep_session.specs.Table.{on_fault, error_about}
use Rattle.pcep_session.specs.declared.table.Notices.{Notices}
use Rattle.pcep_session.specs.declared.table.Notices.TheVariants.{One, Two}
use Rattle.message_words.specs.declared.codes.ErrorCode.{ErrorCode}
use Rattle.message_words.specs.Faults.{about_of, answering_code, ends_session}

abbrev pub notices : About → Option ErrorCode → Bool → Notices
notices about None closes = One (Close 3)
notices about (Some c) false = One (error_about about c.error_type c.value)
notices about (Some c) true = Two (error_about about c.error_type c.value) (Close 3)

-- the session's table answers the fault in this way
abbrev pub IsAnswered : MessageFault → Type 0
IsAnswered fault = (on_fault fault).notices ≡ notices (about_of fault) (answering_code fault) (ends_session fault)
