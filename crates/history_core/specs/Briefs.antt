-- What is kept of a reply: for a job, the number of its ticket; for messages that were handed out, how many they are.
use Rattle.std.specs.Prelude.{ℕ, Bool, true, false, List, codes, length, Option, Some, None}
use Rattle.lsp_base.specs.Whys.{number_of}
use Rattle.step_core.specs.declared.event.Reply.{Reply}
use Rattle.step_core.specs.declared.event.Reply.TheVariants as reply
use Rattle.history_core.specs.declared.step.Brief.{Brief}
use Rattle.history_core.specs.declared.step.Brief.TheVariants as brief

abbrev pub brief_of : Reply → Brief
brief_of reply.Done = brief.Done
brief_of (reply.Booked wants_path) = brief.Booked wants_path
brief_of (reply.Asked ticket) = brief.Asked ticket
brief_of (reply.Job job) = brief.Job (job.ticket).id
brief_of reply.Idle = brief.Idle
brief_of (reply.Granted srp) = brief.Granted srp
brief_of reply.Answered = brief.Answered
brief_of reply.Again = brief.Again
brief_of reply.NoPath = brief.NoPath
brief_of reply.GivenUp = brief.GivenUp
brief_of reply.Gone = brief.Gone
brief_of (reply.Removing srp) = brief.Removing srp
brief_of (reply.Out messages) = brief.Out (length messages)
brief_of (reply.Refused why) = brief.Refused why

abbrev pub is_grant : Brief → Bool
is_grant (brief.Granted srp) = true
is_grant brief.Done = false
is_grant (brief.Booked wants) = false
is_grant (brief.Asked ticket) = false
is_grant (brief.Job ticket) = false
is_grant brief.Idle = false
is_grant brief.Answered = false
is_grant brief.Again = false
is_grant brief.NoPath = false
is_grant brief.GivenUp = false
is_grant brief.Gone = false
is_grant (brief.Removing srp) = false
is_grant (brief.Out messages) = false
is_grant (brief.Refused why) = false

-- the kind of the reply
abbrev pub brief_word : Brief → List ℕ
brief_word brief.Done = codes "done"
brief_word (brief.Booked false) = codes "booked"
brief_word (brief.Booked true) = codes "booked wants"
brief_word (brief.Asked ticket) = codes "asked"
brief_word (brief.Job ticket) = codes "job"
brief_word brief.Idle = codes "idle"
brief_word (brief.Granted srp) = codes "granted"
brief_word brief.Answered = codes "answered"
brief_word brief.Again = codes "again"
brief_word brief.NoPath = codes "nopath"
brief_word brief.GivenUp = codes "givenup"
brief_word brief.Gone = codes "gone"
brief_word (brief.Removing srp) = codes "removing"
brief_word (brief.Out messages) = codes "out"
brief_word (brief.Refused why) = codes "refused"

-- the number of a ticket or a request, how many messages there are, or why it was refused
abbrev pub brief_number : Brief → Option ℕ
brief_number brief.Done = None
brief_number (brief.Booked wants) = None
brief_number (brief.Asked ticket) = Some ticket
brief_number (brief.Job ticket) = Some ticket
brief_number brief.Idle = None
brief_number (brief.Granted srp) = Some srp
brief_number brief.Answered = None
brief_number brief.Again = None
brief_number brief.NoPath = None
brief_number brief.GivenUp = None
brief_number brief.Gone = None
brief_number (brief.Removing srp) = Some srp
brief_number (brief.Out messages) = Some messages
brief_number (brief.Refused why) = Some (number_of why)
