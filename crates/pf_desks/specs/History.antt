-- Legal histories: what a desk noted, replayed on an empty desk, gives its own replies.
use Rattle.std.specs.Prelude.{◌≡◌, List, [], ◌∷◌, Some}
use Rattle.pf_desks.specs.Desk.{Profile, Desk, no_desk, Reply, Entry, called, claimed, filed, handed_back}
use Rattle.pf_desks.specs.Calls.{HasRoom, reply_to, after_call}
use Rattle.pf_desks.specs.Work.{claim, file, hand_back, worker_step}

-- EntryFollows p d e d': what is noted leads from a desk to the next: a call had room in the log, and its reply is the
-- desk's own; what is claimed was queued, and what is filed or handed back was running
abbrev pub EntryFollows : Profile → Desk → Entry → Desk → Type 0
EntryFollows p d (called c r) d' = HasRoom d × (r ≡ reply_to p d c) × (d' ≡ after_call p d c)
EntryFollows p d (claimed t) d' = worker_step p d (claim t) ≡ Some d'
EntryFollows p d (filed t m) d' = worker_step p d (file t m) ≡ Some d'
EntryFollows p d (handed_back t) d' = worker_step p d (hand_back t) ≡ Some d'

-- IsLegal p d es d': what is noted leads in turn from a desk to another
abbrev pub IsLegal : Profile → Desk → List Entry → Desk → Type 0
IsLegal p d [] d' = d ≡ d'
IsLegal p d (e ∷ es) d' = (k : Desk) × EntryFollows p d e k × IsLegal p k es d'

-- the desk is what its history makes of an empty one, and the history is legal
abbrev pub IsLegalDesk : Profile → Desk → Type 0
IsLegalDesk p d = IsLegal p no_desk d.history d

-- the calls that a history notes with their replies, in order
abbrev pub calls_noted : List Entry → List Entry
calls_noted [] = []
calls_noted (called c r ∷ es) = called c r ∷ calls_noted es
calls_noted (claimed t ∷ es) = calls_noted es
calls_noted (filed t m ∷ es) = calls_noted es
calls_noted (handed_back t ∷ es) = calls_noted es

-- the replies alone
abbrev pub replies_noted : List Entry → List Reply
replies_noted [] = []
replies_noted (called c r ∷ es) = r ∷ replies_noted es
replies_noted (claimed t ∷ es) = replies_noted es
replies_noted (filed t m ∷ es) = replies_noted es
replies_noted (handed_back t ∷ es) = replies_noted es
