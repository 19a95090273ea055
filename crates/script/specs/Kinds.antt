-- The words that name a kind of journal or of keeper.
use Rattle.std.specs.Prelude.{◌≡◌, ℕ, List, [], ◌∷◌, Some, codes, Option}
use Rattle.std.proofs.Common.{rules}
use Rattle.script.specs.Keywords.{spelled}
use Rattle.script.specs.declared.kinds.JournalKind.{JournalKind}
use Rattle.script.specs.declared.kinds.JournalKind.TheVariants.{Records, Packed}
use Rattle.script.specs.declared.kinds.KeeperKind.{KeeperKind}
use Rattle.script.specs.declared.kinds.KeeperKind.TheVariants.{Rows, None}

-- how each kind of journal is spelled
abbrev pub journal_spelling : JournalKind → List ℕ
journal_spelling Records = codes "records"
journal_spelling Packed = codes "packed"

-- every kind of journal
abbrev pub journal_kinds : List JournalKind
journal_kinds = Records ∷ (Packed ∷ [])

-- the kind of journal that a word names
abbrev pub journal_kind : List ℕ → Option JournalKind
journal_kind word = spelled journal_spelling journal_kinds word

-- each kind of journal is named by its spelling
pub journal_named : (k : JournalKind) → spelled journal_spelling journal_kinds (journal_spelling k) ≡ Some k
unfolding spelled
journal_named k = search rules

-- how each kind of keeper is spelled
abbrev pub keeper_spelling : KeeperKind → List ℕ
keeper_spelling Rows = codes "rows"
keeper_spelling None = codes "none"

-- every kind of keeper
abbrev pub keeper_kinds : List KeeperKind
keeper_kinds = Rows ∷ (None ∷ [])

-- the kind of keeper that a word names
abbrev pub keeper_kind : List ℕ → Option KeeperKind
keeper_kind word = spelled keeper_spelling keeper_kinds word

-- each kind of keeper is named by its spelling
pub keeper_named : (k : KeeperKind) → spelled keeper_spelling keeper_kinds (keeper_spelling k) ≡ Some k
unfolding spelled
keeper_named k = search rules
