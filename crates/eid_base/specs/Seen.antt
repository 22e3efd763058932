-- What a folder and a sink show of themselves. This project's own.
use Rattle.std.specs.Prelude.{◌≡◌, ◌≢◌, ◌⊎◌, ℕ, ◌+◌, Bool, IsTrue, List, ◌++◌, take, Option, None, IsSomeAnd, option_map}

-- A folder: whether it tells its content, what each name holds, and how often it has failed.
pub record FolderSeen : Type 0 where
  pub tells : Bool
  pub file : List ℕ → Option (List ℕ)
  pub faults : ℕ

-- A sink: whether it tells what was written, the bytes written so far, and how often it has failed.
pub record SinkSeen : Type 0 where
  pub tells : Bool
  pub written : List ℕ
  pub faults : ℕ

-- the same files
pub record SameFiles (old new : FolderSeen) : Type 0 where
  pub tells : new.tells ≡ old.tells
  pub files : IsTrue old.tells → (name : List ℕ) → new.file name ≡ old.file name

-- every name but this one holds what it held
pub record SameOthers (name : List ℕ) (old new : FolderSeen) : Type 0 where
  pub tells : new.tells ≡ old.tells
  pub others : IsTrue old.tells → (other : List ℕ) → other ≢ name → new.file other ≡ old.file other

-- what a read with this limit gives: one byte more than the limit, or all where there are fewer
abbrev pub front_of : FolderSeen → List ℕ → ℕ → Option (List ℕ)
front_of folder name limit = option_map (take (limit + 1)) (folder.file name)

-- one list is the front of another
abbrev pub IsFront : List ℕ → List ℕ → Type 0
IsFront front whole = (rest : List ℕ) × (front ++ rest ≡ whole)

-- after a write that failed: the name is absent, or holds what it held, or a front of the bytes
abbrev pub IsLeftBy : Option (List ℕ) → Option (List ℕ) → List ℕ → Type 0
IsLeftBy old now bytes = (now ≡ None) ⊎ ((now ≡ old) ⊎ IsSomeAnd now (λ front. IsFront front bytes))

-- after a piece was put, or only a front of it
abbrev pub Grew : List ℕ → List ℕ → List ℕ → Type 0
Grew old new piece = new ≡ old ++ piece

abbrev pub GrewByPart : List ℕ → List ℕ → List ℕ → Type 0
GrewByPart old new piece = (part : List ℕ) × IsFront part piece × (new ≡ old ++ part)
