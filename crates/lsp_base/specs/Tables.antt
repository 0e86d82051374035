-- The tables of paths and of records: what a contract sees of them, and how an LSP's items are found.
use Rattle.std.specs.Prelude.{ℕ, ◌+◌, ◌*◌, ◌%◌, ◌≡◌, ◌==◌, ◌&&◌, ◌||◌, Bool, true, List, fold}
use Rattle.std.specs.List.{AllByRecursion}
use Rattle.lsp_base.specs.Lsps.{is_path_of}
use Rattle.lsp_base.specs.Same.{same_links}
use Rattle.lsp_base.specs.declared.path.Path.{Path}
use Rattle.lsp_base.specs.declared.effect.Record.{Record}
use Rattle.lsp_base.specs.declared.record_table.LspKey.{LspKey}

-- the records in order, and how many more there is room for
pub record RecordRoom : Type 0 where
  pub records : List Record
  pub room : ℕ

abbrev pub key_of : Record → LspKey
key_of r = record { peer = r.peer; plsp = r.plsp }

abbrev pub same_key : LspKey → LspKey → Bool
same_key a b = a.peer == b.peer && a.plsp == b.plsp

-- each record is under its own key
abbrev pub AreKeyed : List (LspKey × Record) → Type 0
AreKeyed entries = AllByRecursion (λ e. e.0 ≡ key_of e.1) entries

-- The bucket of an LSP's paths. Any function of the LSP would do; this one takes a prime, so that peers whose numbers
-- differ by a power of two differ.
unfoldable pub bucket_number : ℕ → ℕ → ℕ
bucket_number peer plsp = (peer * 7919 + plsp) % 16381

abbrev pub path_bucket : Path → ℕ
path_bucket x = bucket_number x.peer x.plsp

-- whatever passes the test is one of the LSP's paths, or a grant of the peer that is not bound to an LSP
pub record PicksFrom (test : Path → Bool) (peer plsp : ℕ) : Type 0 where
  pub of : (x : Path) → test x ≡ true → (is_path_of peer plsp x || is_path_of peer 0 x) ≡ true

-- the bucket of the LSPs of a peer with a name; any function of both would do
unfoldable pub name_bucket : ℕ → List ℕ → ℕ
name_bucket peer name = fold (λ bucket byte. (bucket * 31 + byte) % 16381) (peer % 16381) name

abbrev pub record_bucket : Record → ℕ
record_bucket r = name_bucket r.peer (r.lsp).name

-- an LSP of the peer has the name
abbrev pub is_named : ℕ → List ℕ → Record → Bool
is_named peer name r = r.peer == peer && same_links (r.lsp).name name
