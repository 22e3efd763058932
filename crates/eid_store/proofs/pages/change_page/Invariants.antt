use Rattle.std.proofs.Common.{◌≡◌, ℕ, ◌+◌, ◌<◌, ◌≤◌, List, length, slice_index}
use Rattle.eid_record.specs.Layout.{replaced}
use Rattle.eid_store.specs.declared.next.NewRecord.{NewRecord}
use Rattle.eid_store.proofs.pages.change_page.Given as goal

-- after this many bytes of the page
pub record SoFar (next : NewRecord) (place : ℕ) (first page : List ℕ) (at count : ℕ) : Type 0 where
  pub here : at ≡ place + count
  pub changed : (files : List ℕ) → length files ≡ next.size
      → ((k : ℕ) → k < 64 → place + k < next.size → slice_index first k ≡ slice_index files (place + k))
      → (k : ℕ) → k < count → slice_index page k ≡ slice_index (replaced next.change_at next.change.now files) (place + k)
  pub rest : (k : ℕ) → count ≤ k → slice_index page k ≡ slice_index first k

abbrev pub invariant-loop-byte : goal.invariant-loop-byte
invariant-loop-byte l = SoFar l.next l.place l.fn.page l.page l.at l.byte-index
