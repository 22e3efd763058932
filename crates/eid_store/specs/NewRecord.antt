-- Inside: cited by private contracts alone.
-- The bytes of a record that a commit writes.
use Rattle.std.specs.Prelude.{◌≡◌, ℕ, ◌+◌, ◌≤◌, List, length}
use Rattle.eid_store.specs.declared.next.NewRecord.{NewRecord}
use Rattle.eid_store.specs.Pages.{new_bytes}

-- the files fit a record, and the change stays inside them
pub record IsReady (next : NewRecord) : Type 0 where
  pub fixed : length next.fixed.now ≡ 448
  pub files : next.size ≤ 24000
  pub inside : next.change_at + length next.change.now ≤ next.size

-- with what stands in this room
abbrev pub next_bytes : NewRecord → List ℕ → List ℕ
next_bytes next room = new_bytes next.fixed.now next.size next.change_at next.change.now room
