-- Inside: cited by private contracts alone.
-- The record that a chip's cells stand for.
use Rattle.std.specs.Prelude.{ℕ, false, List, [], Option, None, unwrap_or, slice_index_or}
use Rattle.eid_record.specs.Plain.{PlainRecord, FullRecord}
use Rattle.eid_store.specs.Stands.{stands}

-- what stands in no cells
abbrev pub no_fields : PlainRecord
no_fields = record {
  number = 0;
  tries = 0;
  unblocks = 0;
  active = false;
  pin = [];
  can = [];
  puk = [];
  date = [];
  current = record { name = []; template = []; key = [] };
  previous = None;
  ca_secret = [];
  ri_secret = [];
  lengths = [];
}

-- the record, where the cells stand for one
abbrev pub held : List ℕ → FullRecord
held cells = unwrap_or (stands cells) (record { fields = no_fields; files = [] })

-- a file's bytes, where it is there
abbrev pub held_file : List ℕ → ℕ → Option (List ℕ)
held_file cells file = slice_index_or (held cells).files file None
