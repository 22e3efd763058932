-- What replies of success hold (BSI TR-03110-3; ISO/IEC 7816-4).
use Rattle.std.specs.Prelude.{ℕ, ◌==◌, ◌||◌, ◌&&◌, Bool, true, false, List, [], ◌∷◌, length, Option, Some, None, if◌then◌else◌}
use Rattle.eid_apdu.specs.Answer.{PlainReply}
use Rattle.eid_cvc.specs.CertificateIn.{point_of, reference_in}
use Rattle.eid_cvc.specs.Fronts.{PlainFront, ◌>>=◌, front_in}

abbrev pub success : ℕ
success = 0x9000

-- success without data
abbrev pub is_done : PlainReply → Bool
is_done reply = reply.status == success && length reply.content == 0

-- a password was chosen; of the PIN that one or two tries are left
abbrev pub is_pace_selected : PlainReply → Bool
is_pace_selected reply =
    (reply.status == success || reply.status == 0x63C1 || reply.status == 0x63C2) && length reply.content == 0

-- the data of a success
abbrev pub data_of : PlainReply → Option (List ℕ)
data_of reply = if reply.status == success then Some reply.content else None

-- a value of this many bytes
abbrev pub sized : ℕ → List ℕ → Option (List ℕ)
sized size value = if length value == size then Some value else None

-- the value of the one object that the bytes are, with this tag
unfoldable pub whole_object : ℕ → List ℕ → Option (List ℕ)
whole_object tag bytes = do
  front ← front_in tag bytes
  if length front.rest == 0 then Some front.value else None

-- dynamic authentication data: what the one object 7C holds
unfoldable pub data_objects_in : PlainReply → Option (List ℕ)
data_objects_in reply = do
  content ← data_of reply
  whole_object 0x7C content

-- one value of so many bytes
unfoldable pub value_in : (tag size : ℕ) → PlainReply → Option (List ℕ)
value_in tag size reply = do
  held ← data_objects_in reply
  value ← whole_object tag held
  sized size value

-- one point
unfoldable pub point_in : ℕ → PlainReply → Option (List ℕ)
point_in tag reply = do
  held ← data_objects_in reply
  value ← whole_object tag held
  point_of value

-- a name and nothing behind it
abbrev pub is_last : Option PlainFront → Bool
is_last None = false
is_last (Some front) = length front.rest == 0

-- nothing, or the name of the previous trust point
unfoldable pub ends_names : List ℕ → Bool
ends_names [] = true
ends_names (first ∷ rest) = is_last (reference_in 0x88 (first ∷ rest))

-- the chip's token of PACE, before the names of its trust points
unfoldable pub token_in : PlainReply → Option (List ℕ)
token_in reply = do
  held ← data_objects_in reply
  token ← front_in 0x86 held
  name ← reference_in 0x87 token.rest
  if ends_names name.rest then sized 8 token.value else None

-- the challenge of terminal authentication
unfoldable pub challenge_in : PlainReply → Option (List ℕ)
challenge_in reply = do
  content ← data_of reply
  sized 8 content

-- what the chip answers in chip authentication
pub record PlainProof : Type 0 where
  pub nonce : List ℕ
  pub token : List ℕ

unfoldable pub proof_in : PlainReply → Option PlainProof
proof_in reply = do
  held ← data_objects_in reply
  first ← front_in 0x81 held
  nonce ← sized 8 first.value
  value ← whole_object 0x82 first.rest
  token ← sized 8 value
  Some (record { nonce = nonce; token = token })
