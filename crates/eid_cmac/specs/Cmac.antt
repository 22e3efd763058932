-- AES-CMAC (RFC 4493; NIST SP 800-38B).
use Rattle.std.specs.Prelude.{ℕ, zero, suc, ◌-◌, ◌*◌, ◌/◌, ◌%◌, ◌^◌, ◌==◌, nat_lt, List, length, take, drop, replicate, bit_xor, if◌then◌else◌}
use Rattle.std.specs.Int.{w128, from_be_bytes, to_be_bytes}
use Rattle.eid_aes.specs.Cipher.{cipher, xor_block}
use Rattle.eid_cmac.specs.Padding.{padded}

abbrev pub zeros : List ℕ
zeros = replicate 16 0

-- a number of 128 bits moved one bit to the left, and 87 added where the bit that leaves it is 1
abbrev pub doubled_number : ℕ → ℕ
doubled_number n = if nat_lt n (2 ^ 127) then n * 2 % 2 ^ 128 else bit_xor (n * 2 % 2 ^ 128) 0x87

-- a block doubled, as a number with its high byte first
unfoldable pub doubled : List ℕ → List ℕ
doubled block = to_be_bytes w128 (doubled_number (from_be_bytes w128 block))

-- the subkey of a last block that is whole, and of one that is padded
abbrev pub first_subkey : List ℕ → List ℕ
first_subkey key = doubled (cipher key zeros)

abbrev pub second_subkey : List ℕ → List ℕ
second_subkey key = doubled (first_subkey key)

-- the chain after the first n blocks of the message
unfoldable pub chain : List ℕ → List ℕ → ℕ → List ℕ
chain key message zero = zeros
chain key message (suc n) = cipher key (xor_block (chain key message n) (take 16 (drop (16 * n) message)))

-- the number of blocks before the last one
abbrev pub blocks_before : List ℕ → ℕ
blocks_before message = (length message - 1) / 16

-- the bytes of the last block: 1 to 16, or none where the message is empty
abbrev pub last_bytes : List ℕ → List ℕ
last_bytes message = drop (16 * blocks_before message) message

-- the last block with its subkey
abbrev pub last_block : List ℕ → List ℕ → List ℕ
last_block key bytes =
    if length bytes == 16 then xor_block bytes (first_subkey key)
    else xor_block (padded bytes) (second_subkey key)

-- the MAC of a message
unfoldable pub cmac : List ℕ → List ℕ → List ℕ
cmac key message = cipher key (xor_block (chain key message (blocks_before message)) (last_block key (last_bytes message)))

-- the first 8 bytes of the MAC, which secure messaging and the tokens carry (BSI TR-03110-3)
abbrev pub mac8 : List ℕ → List ℕ → List ℕ
mac8 key message = take 8 (cmac key message)
