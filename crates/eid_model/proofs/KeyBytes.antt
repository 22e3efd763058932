-- The keys of a channel are lists of bytes.
use Rattle.std.proofs.Common.{◌≡◌, ℕ, zero, suc, ◌<◌, List, [], ◌∷◌, ◌++◌, take, slice_index, Option, Some, None, refl, ◌∙◌, subst, arith}
use Rattle.std.specs.Prelude.{option_map}
use Rattle.std.specs.Option.{option_or}
use Rattle.std.specs.Int.{w32, to_be_bytes}
use Rattle.sha1.specs.Sha1.{sha1, digest_bytes}
use Rattle.eid_cmac.specs.Derivation.{derived}
use Rattle.eid_pace.specs.Check.{done_by}
use Rattle.eid_sm.specs.Keys.{Keys, ChannelState}
use Rattle.eid_sm.specs.Parts.{AreBytes}
use Rattle.eid_model.specs.declared.kind.Kind.{Kind}
use Rattle.eid_model.specs.declared.kind.Kind.TheVariants.{MutualAuthentication, AuthenticateChip}
use Rattle.eid_model.specs.Moments.{PlainMoment}
use Rattle.eid_model.specs.Runs.{Phase, Idle, Chose, SentNonce, HasBase, HasSecret, ChoseKey, answers_of, run, phase}
use Rattle.eid_copro.specs.declared.ask.Answer.{Answer}
use Rattle.eid_copro.specs.declared.ask.Answer.TheVariants.{Challenge, Shared}
use Rattle.eid_ca.specs.Keys.{enc_key, mac_key}
use Rattle.eid_model.specs.Sessions.{done_with, keys_agreed, keys_with, kind_of_moment, keys_of, opened, channel_keys, channel, channel_after, commands_since_opening}

-- each of them is a byte
All : List ℕ → Type 0
All [] = Unit {0}
All (b ∷ bytes) = (b < 256) × All bytes

all_both : (a b : List ℕ) → All a → All b → All (a ++ b)
unfolding All
all_both [] b p q = q
all_both (x ∷ a) b p q = (p.0, all_both a b p.1 q)

all_front : (n : ℕ) (bytes : List ℕ) → All bytes → All (take n bytes)
unfolding All
all_front zero bytes p = _
all_front (suc n) [] p = _
all_front (suc n) (b ∷ bytes) p = (p.0, all_front n bytes p.1)

are_bytes : (bytes : List ℕ) → All bytes → (i : ℕ) → slice_index bytes i < 256
unfolding All
are_bytes [] p i = omega arith
are_bytes (b ∷ bytes) p zero = p.0
are_bytes (b ∷ bytes) p (suc i) = are_bytes bytes p.1 i

word_bytes : (n : ℕ) → All (to_be_bytes w32 n)
unfolding All
word_bytes n = (omega arith, (omega arith, (omega arith, (omega arith, _))))

digest_are : (h : List ℕ) (n : ℕ) → All (digest_bytes h n)
unfolding All digest_bytes
digest_are h zero = _
digest_are h (suc n) = all_both (digest_bytes h n) (to_be_bytes w32 (slice_index h n)) (digest_are h n) (word_bytes (slice_index h n))

pub derived_bytes : (secret nonce : List ℕ) (which : ℕ) (i : ℕ) → slice_index (derived secret nonce which) i < 256
unfolding sha1
derived_bytes secret nonce which i = are_bytes _ (all_front 16 _ (digest_are _ 5)) i

-- the key that a PACE agreed
pace_bytes : (p : Phase) (keys : Keys) → option_map keys_of (done_with p) ≡ Some keys → AreBytes keys.enc
pace_bytes (HasSecret agreed) keys is =
    let same : keys_of (done_by agreed) ≡ keys = cc in
    subst (λ (k : Keys). AreBytes k.enc) same (derived_bytes agreed.shared [] 1)
pace_bytes Idle keys is = absurd (cc)
pace_bytes (Chose choice) keys is = absurd (cc)
pace_bytes (SentNonce sent) keys is = absurd (cc)
pace_bytes (HasBase mapped) keys is = absurd (cc)
pace_bytes (ChoseKey name) keys is = absurd (cc)

-- and the key that a chip authentication agreed
chip_bytes : (given : List Answer) (keys : Keys) → keys_agreed given ≡ Some keys → AreBytes keys.enc
chip_bytes (Challenge nonce ∷ Shared shared ∷ []) keys is =
    let same : record { enc = enc_key shared nonce; mac = mac_key shared nonce } ≡ keys = cc in
    subst (λ (k : Keys). AreBytes k.enc) same (derived_bytes shared nonce 1)
chip_bytes given keys is = absurd (cc)

-- the key that a kind opens a channel with
kind_bytes : (kind : Option Kind) (given : List Answer) (p : Phase) (keys : Keys) → keys_with kind given p ≡ Some keys → AreBytes keys.enc
kind_bytes None given p keys is = absurd (cc)
kind_bytes (Some MutualAuthentication) given p keys is = pace_bytes p keys is
kind_bytes (Some AuthenticateChip) given p keys is = chip_bytes given keys is
kind_bytes (Some kind) given p keys is = absurd (cc)

-- and the keys of the channel that was opened last
keys_bytes : (session : List PlainMoment) (keys : Keys) → channel_keys session ≡ Some keys → AreBytes keys.enc
keys_bytes [] keys is = absurd (cc)
keys_bytes (m ∷ before) keys is = by (opened m before) refl (keys_bytes before keys) is where
  by : (o : Option Keys) → opened m before ≡ o → (channel_keys before ≡ Some keys → AreBytes keys.enc) → option_or o (channel_keys before) ≡ Some keys → AreBytes keys.enc
  by None none earlier is = earlier is
  by (Some found) there earlier is = kind_bytes (kind_of_moment m before) (answers_of m.asks) (phase (run before)) keys (there ∙ is)

pub channel_bytes : (session : List PlainMoment) (ch : ChannelState) → channel session ≡ Some ch → AreBytes ch.keys.enc
channel_bytes session ch is = by (channel_keys session) refl is where
  by : (o : Option Keys) → channel_keys session ≡ o → option_map (channel_after (commands_since_opening session)) o ≡ Some ch → AreBytes ch.keys.enc
  by None none is = absurd (cc)
  by (Some keys) there is =
      let same : channel_after (commands_since_opening session) keys ≡ ch = cc in
      subst (λ (c : ChannelState). AreBytes c.keys.enc) same (keys_bytes session keys there)
