-- Where the clients of a farm have their streams: files that words name, and files of replies in a folder.
use Rattle.std.specs.Prelude.{◌≡◌, ◌⊎◌, ⊤, ℕ, Bool, true, List, ◌∷◌, ◌++◌, codes, if◌then◌else◌}
use Rattle.std.specs.Prelude.{Option, Some, None, option_map}
use Rattle.std.specs.Fmt.{decimal}
use Rattle.std.specs.List.{list_any}
use Rattle.std.specs.Str.{bytes_eq}
use Rattle.pf_errors.specs.declared.fault.OrNoMemory.{OrNoMemory}
use Rattle.pf_errors.specs.declared.fault.OrNoMemory.TheVariants.{Fault, NoMemory}
use Rattle.pf_streams.specs.declared.stream.StreamFault.{StreamFault}
use Rattle.pf_streams.specs.declared.stream.StreamFault.TheVariants.{Read, Write}
use Rattle.pf_clients.specs.declared.streams.ClientStreams.{ClientStreams}

-- ---- paths

-- a word of a farm names the standard input
abbrev pub is_input : (word : List ℕ) → Bool
is_input word = bytes_eq word (codes "-")

-- the path that a word names
abbrev pub path_of : (word : List ℕ) → List ℕ
path_of word = if is_input word then codes "/dev/stdin" else word

-- the path of the replies to client k in a folder
abbrev pub reply_path : (folder : List ℕ) → (k : ℕ) → List ℕ
reply_path folder k = folder ++ codes "/" ++ decimal k

-- where the replies to client k go, if a folder is named
abbrev pub replies_at : (folder : Option (List ℕ)) → (k : ℕ) → Option (List ℕ)
replies_at folder k = option_map (λ d. reply_path d k) folder

-- one of these words has no file: the path that it names may be refused, or it names the standard input, as one before
-- it does
abbrev pub LacksFile : (refuses : (path : List ℕ) → Type 0) → (words : List (List ℕ)) → Type 0
LacksFile refuses words =
    (before : List (List ℕ)) × (w : List ℕ) × (after : List (List ℕ)) × (words ≡ before ++ w ∷ after)
    × (refuses (path_of w) ⊎ ((is_input w ≡ true) × (list_any is_input before ≡ true)))

-- why a word has no file, unless memory ran out: the path that it names may be refused
abbrev pub IsRefused : {N : Type 0} → (refuses : (path : List ℕ) → Type 0) → (word : List ℕ) → OrNoMemory N → Type 0
IsRefused refuses word (Fault n) = refuses (path_of word)
IsRefused refuses word NoMemory = ⊤

-- ---- streams

-- F is what files are to the system, which says which of them a path may open
module _ {F : Type 0} (opens : (path : List ℕ) → F → Type 0) where
  -- the file of a word is the one that was opened before, if one was
  abbrev pub IsFileOf : (word : List ℕ) → (opened : Option F) → F → Type 0
  IsFileOf word None f = opens (path_of word) f
  IsFileOf word (Some g) f = f ≡ g

  -- the streams of client k, whose file this word names, are at this name and this path: where no folder is named its
  -- file was opened before
  abbrev pub IsSource : (folder : Option (List ℕ)) → (k : ℕ) → (word name : List ℕ) → (opened : Option F)
      → (replies : Option (List ℕ)) → Type 0
  IsSource None k word name opened replies =
      (name ≡ word) × ((f : F) × (opened ≡ Some f) × opens (path_of word) f) × (replies ≡ None)
  IsSource (Some folder) k word name opened replies =
      (name ≡ word) × (opened ≡ None) × (replies ≡ Some (reply_path folder k))

-- replies are kept where they have no path, and else written to the file that the path made
abbrev pub AreRepliesAt : {F : Type 0} → (makes : (path : List ℕ) → F → Type 0) → (path : Option (List ℕ)) → Option F
    → Type 0
AreRepliesAt makes None None = ⊤
AreRepliesAt makes (Some path) (Some f) = makes path f
AreRepliesAt makes None (Some f) = ⊥
AreRepliesAt makes (Some path) None = ⊥

module _ {F : Type 0} (opens makes : (path : List ℕ) → F → Type 0) where
  -- what a client is given whose file this word names and whose replies go to this path
  abbrev pub GivesStreams : (word : List ℕ) → (opened : Option F) → (replies : Option (List ℕ)) → ClientStreams F F
      → Type 0
  GivesStreams word opened replies streams =
      IsFileOf opens word opened streams.file × AreRepliesAt makes replies streams.replies

  -- what client k of a farm is given, whose file this word names
  abbrev pub StreamsOf : (folder : Option (List ℕ)) → (k : ℕ) → (word : List ℕ) → ClientStreams F F → Type 0
  StreamsOf folder k word streams =
      opens (path_of word) streams.file × AreRepliesAt makes (replies_at folder k) streams.replies

-- at some paths no file may be opened, and at some none made
module _ (refuses bars : (path : List ℕ) → Type 0) where
  -- which stream a client may lack: its file, if it wasn't opened before, or that of its replies, if they aren't kept
  abbrev pub LacksStream : {F : Type 0} → (word : List ℕ) → (opened : Option F) → (replies : Option (List ℕ))
      → StreamFault → Type 0
  LacksStream word opened replies (Read e) = (opened ≡ None) × refuses (path_of word)
  LacksStream word opened replies (Write e) = (path : List ℕ) × (replies ≡ Some path) × bars path

  -- the same of client k of a farm: none, where no folder is named
  abbrev pub MayLack : (folder : Option (List ℕ)) → (k : ℕ) → (word : List ℕ) → StreamFault → Type 0
  MayLack None k word e = ⊥
  MayLack (Some folder) k word (Read e) = refuses (path_of word)
  MayLack (Some folder) k word (Write e) = bars (reply_path folder k)
