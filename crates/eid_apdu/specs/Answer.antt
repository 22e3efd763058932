-- Response APDUs (ISO/IEC 7816-4): the content, then the two status bytes.
use Rattle.std.specs.Prelude.{ℕ, ◌/◌, ◌%◌, ◌<◌, ◌≤◌, List, [], ◌∷◌, ◌++◌, length}
use Rattle.eid_apdu.specs.declared.reply.Reply.{Reply}

-- A reply as its fields alone.
pub record PlainReply : Type 0 where
  pub content : List ℕ
  pub status : ℕ

-- the fields of a reply of the code
abbrev pub plain_reply : Reply → PlainReply
plain_reply r = record { content = r.content.items; status = r.status.0 }

-- the two status bytes, SW1 first
abbrev pub status_bytes : ℕ → List ℕ
status_bytes status = status / 256 ∷ status % 256 ∷ []

-- the bytes of a reply
abbrev pub spelled : PlainReply → List ℕ
spelled r = r.content ++ status_bytes r.status

-- a reply has at most 2,100 bytes of content, and a status of two bytes
pub record IsReply (r : PlainReply) : Type 0 where
  pub content : length r.content ≤ 2100
  pub status : r.status < 65536
