-- What the RFCs call the errors of a PCErr and the reasons of a Close.
use Rattle.std.specs.Prelude.{ℕ, ◌==◌, List, codes, if◌then◌else◌}

-- ---- Error-values, by their Error-Type (RFC 5440 section 7.15, RFC 8231 section 8.5, RFC 8281 section 8.5, RFC 8408)

-- Error-Type 1
abbrev pub session_failure : ℕ → List ℕ
session_failure value =
    if value == 1 then codes "invalid Open message"
    else (if value == 2 then codes "no Open before the OpenWait timer expired"
    else (if value == 3 then codes "unacceptable session characteristics"
    else (if value == 4 then codes "unacceptable but negotiable session characteristics"
    else (if value == 5 then codes "session characteristics still unacceptable"
    else (if value == 6 then codes "PCErr proposing unacceptable session characteristics"
    else (if value == 7 then codes "no Keepalive or PCErr before the KeepWait timer expired"
    else (if value == 8 then codes "PCEP version not supported"
    else codes "PCEP session establishment failure")))))))

-- Error-Type 3
abbrev pub unknown_object : ℕ → List ℕ
unknown_object value =
    if value == 1 then codes "unrecognized object class"
    else (if value == 2 then codes "unrecognized object type"
    else codes "unknown object")

-- Error-Type 4
abbrev pub unsupported_object : ℕ → List ℕ
unsupported_object value =
    if value == 1 then codes "not supported object class"
    else (if value == 2 then codes "not supported object type"
    else codes "not supported object")

-- Error-Type 5
abbrev pub policy_violation : ℕ → List ℕ
policy_violation value =
    if value == 1 then codes "policy violation: C flag of METRIC set"
    else (if value == 2 then codes "policy violation: O flag of RP clear"
    else codes "policy violation")

-- Error-Type 6
abbrev pub missing_object : ℕ → List ℕ
missing_object value =
    if value == 1 then codes "RP object missing"
    else (if value == 2 then codes "RRO missing for a reoptimization request"
    else (if value == 3 then codes "END-POINTS object missing"
    else (if value == 8 then codes "LSP object missing"
    else (if value == 9 then codes "ERO object missing"
    else (if value == 10 then codes "SRP object missing"
    else (if value == 11 then codes "LSP-IDENTIFIERS TLV missing"
    else codes "mandatory object missing"))))))

-- Error-Type 10
abbrev pub invalid_object : ℕ → List ℕ
invalid_object value =
    if value == 1 then codes "object with P flag not set"
    else (if value == 8 then codes "SYMBOLIC-PATH-NAME TLV missing"
    else (if value == 11 then codes "malformed object"
    else codes "invalid object"))

-- Error-Type 19
abbrev pub invalid_operation : ℕ → List ℕ
invalid_operation value =
    if value == 1 then codes "update request for a non-delegated LSP"
    else (if value == 2 then codes "update request without the stateful capability"
    else (if value == 3 then codes "update request for an unknown PLSP-ID"
    else (if value == 5 then codes "state report without the stateful capability"
    else (if value == 6 then codes "PCE-initiated LSP limit reached"
    else (if value == 7 then codes "delegation for a PCE-initiated LSP cannot be revoked"
    else (if value == 8 then codes "non-zero PLSP-ID in an initiate request"
    else (if value == 9 then codes "LSP is not PCE-initiated"
    else (if value == 10 then codes "PCE-initiated operation-frequency limit reached"
    else codes "invalid operation"))))))))

-- Error-Type 20
abbrev pub synchronization_error : ℕ → List ℕ
synchronization_error value =
    if value == 1 then codes "state report cannot be processed"
    else (if value == 5 then codes "state synchronization cannot be completed"
    else codes "LSP state synchronization error")

-- Error-Type 21
abbrev pub invalid_setup_type : ℕ → List ℕ
invalid_setup_type value =
    if value == 1 then codes "unsupported path setup type"
    else (if value == 2 then codes "mismatched path setup type"
    else codes "invalid path setup type")

-- Error-Type 23
abbrev pub bad_parameter : ℕ → List ℕ
bad_parameter value =
    if value == 1 then codes "SYMBOLIC-PATH-NAME in use"
    else (if value == 2 then codes "speaker identity for an LSP that is not PCE-initiated"
    else codes "bad parameter value")

-- Error-Type 24
abbrev pub instantiation_error : ℕ → List ℕ
instantiation_error value =
    if value == 1 then codes "unacceptable instantiation parameters"
    else (if value == 2 then codes "internal error"
    else (if value == 3 then codes "signaling error"
    else codes "LSP instantiation error"))

-- what a PCEP-ERROR object says, by its Error-Type and Error-value; an unassigned value gets the words of its type
unfoldable pub error_words : ℕ → ℕ → List ℕ
error_words kind value =
    if kind == 1 then session_failure value
    else (if kind == 2 then codes "capability not supported"
    else (if kind == 3 then unknown_object value
    else (if kind == 4 then unsupported_object value
    else (if kind == 5 then policy_violation value
    else (if kind == 6 then missing_object value
    else (if kind == 7 then codes "synchronized path computation request missing"
    else (if kind == 8 then codes "unknown request reference"
    else (if kind == 9 then codes "attempt to establish a second PCEP session"
    else (if kind == 10 then invalid_object value
    else (if kind == 19 then invalid_operation value
    else (if kind == 20 then synchronization_error value
    else (if kind == 21 then invalid_setup_type value
    else (if kind == 23 then bad_parameter value
    else (if kind == 24 then instantiation_error value
    else codes "unknown error"))))))))))))))

-- the reason of a CLOSE object (RFC 5440 section 7.17)
unfoldable pub close_words : ℕ → List ℕ
close_words reason =
    if reason == 1 then codes "no explanation"
    else (if reason == 2 then codes "DeadTimer expired"
    else (if reason == 3 then codes "malformed message"
    else (if reason == 4 then codes "too many unknown requests or replies"
    else (if reason == 5 then codes "too many unrecognized messages"
    else codes "unknown reason"))))
