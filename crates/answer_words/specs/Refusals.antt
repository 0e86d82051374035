-- Why an event was refused, by the number of the refusal.
use Rattle.std.specs.Prelude.{ℕ, ◌==◌, List, codes, if◌then◌else◌}
use Rattle.answer_words.specs.declared.refusals.Subject.{Subject}
use Rattle.answer_words.specs.declared.refusals.Subject.TheVariants.{Peer, Lsp, NoLsp, Nothing}

abbrev pub subject_of : ℕ → Subject
subject_of number =
    if number == 1 then Peer
    else (if number == 2 then Peer
    else (if number == 3 then Peer
    else (if number == 7 then Peer
    else (if number == 8 then Peer
    else (if number == 18 then Peer
    else (if number == 4 then NoLsp
    else (if number == 5 then Lsp
    else (if number == 6 then Lsp
    else (if number == 9 then Lsp
    else Nothing)))))))))

abbrev pub of_peer : ℕ → List ℕ
of_peer number =
    if number == 1 then codes "is not known"
    else (if number == 2 then codes "is up"
    else (if number == 3 then codes "is down"
    else (if number == 7 then codes "takes no updates"
    else (if number == 8 then codes "takes no initiations"
    else codes "has not reported all of its LSPs yet"))))

abbrev pub of_lsp : ℕ → List ℕ
of_lsp number =
    if number == 5 then codes "is not delegated"
    else (if number == 6 then codes "has a request that is awaited"
    else codes "was not initiated")

unfoldable pub of_nothing : ℕ → List ℕ
of_nothing number =
    if number == 10 then codes "1,024 tickets are open"
    else (if number == 11 then codes "there would be more than 16,384 paths"
    else (if number == 12 then codes "64 peers are known"
    else (if number == 13 then codes "no node owns an end of the path, or one node owns both"
    else (if number == 14 then codes "there is no such ticket"
    else (if number == 15 then codes "no search for the ticket is under way"
    else (if number == 16 then codes "an LSP of the name is there or asked for"
    else (if number == 17 then codes "the number of the next request to the peer is that of one that is awaited"
    else (if number == 19 then codes "the PLSP-IDs 0 and 1048575 are reserved"
    else (if number == 20 then codes "no link has the number"
    else codes "refused")))))))))
