-- The kinds that never commit.
use Rattle.std.proofs.Common.{◌≡◌, ◌≢◌, false, [], Some, refl, sym, subst}
use Rattle.eid_apdu.specs.Answer.{PlainReply}
use Rattle.eid_apdu.specs.Command.{PlainCommand}
use Rattle.eid_copro.specs.Seen.{CoproSeen}
use Rattle.eid_record.specs.Plain.{FullRecord}
use Rattle.eid_model.specs.declared.kind.Kind.{Kind}
use Rattle.eid_model.specs.declared.kind.Kind.TheVariants.{SelectApplication, SelectMasterFile, SelectFile, ReadBinary, UpdateBinary, SelectPace, SelectPublicKey, VerifyCertificate, AnnounceTerminal, GetChallenge, ExternalAuthenticate, SelectChipAuthentication, SelectRestrictedIdentification, EncryptedNonce, MapNonce, PerformKeyAgreement, MutualAuthentication, AuthenticateChip, PerformRestrictedIdentification, VerifyAuxiliary, ChangePin, UnblockPin, ChangeCan, ActivatePin, DeactivatePin, NoProtocol, NoStep}
use Rattle.eid_model.specs.Rules.{Situation, committing, concerns, to_commit}
use Rattle.eid_chip.specs.Steps.{Stepped}
use Rattle.eid_chip.specs.Endings.{Reacted}
use Rattle.eid_chip.specs.declared.session.Session.{Session}

-- what a command did, of a kind that is known to be this one
pub stepped_as : (kind is : Kind) (kept : FullRecord) (session : Session) (c : PlainCommand) (r : Reacted) (reply : PlainReply) (before after : CoproSeen) → kind ≡ is → Stepped before after is kept session c r reply → Stepped before after kind kept session c r reply
stepped_as kind is kept session c r reply before after same did = subst (λ (k : Kind). Stepped before after k kept session c r reply) (sym same) did

-- a kind that is none of those that may commit never does
pub never_commits : (kind : Kind) (s : Situation) → concerns committing (Some kind) ≡ false → to_commit (Some kind) s ≡ []
never_commits SelectApplication s calm = refl
never_commits SelectMasterFile s calm = refl
never_commits SelectFile s calm = refl
never_commits ReadBinary s calm = refl
never_commits UpdateBinary s calm = absurd (cc)
never_commits SelectPace s calm = refl
never_commits SelectPublicKey s calm = refl
never_commits VerifyCertificate s calm = absurd (cc)
never_commits AnnounceTerminal s calm = refl
never_commits GetChallenge s calm = refl
never_commits ExternalAuthenticate s calm = refl
never_commits SelectChipAuthentication s calm = refl
never_commits SelectRestrictedIdentification s calm = refl
never_commits EncryptedNonce s calm = refl
never_commits MapNonce s calm = refl
never_commits PerformKeyAgreement s calm = refl
never_commits MutualAuthentication s calm = absurd (cc)
never_commits AuthenticateChip s calm = refl
never_commits PerformRestrictedIdentification s calm = refl
never_commits VerifyAuxiliary s calm = refl
never_commits ChangePin s calm = absurd (cc)
never_commits UnblockPin s calm = absurd (cc)
never_commits ChangeCan s calm = absurd (cc)
never_commits ActivatePin s calm = absurd (cc)
never_commits DeactivatePin s calm = absurd (cc)
never_commits NoProtocol s calm = refl
never_commits NoStep s calm = refl

-- one that is neither of them is none of them
pub is_calm : (kind : Kind) → kind ≢ UpdateBinary → kind ≢ VerifyCertificate → kind ≢ MutualAuthentication → kind ≢ ChangePin → kind ≢ UnblockPin → kind ≢ ChangeCan → kind ≢ ActivatePin → kind ≢ DeactivatePin → concerns committing (Some kind) ≡ false
is_calm SelectApplication a b c d e f g h = refl
is_calm SelectMasterFile a b c d e f g h = refl
is_calm SelectFile a b c d e f g h = refl
is_calm ReadBinary a b c d e f g h = refl
is_calm UpdateBinary a b c d e f g h = absurd (a refl)
is_calm SelectPace a b c d e f g h = refl
is_calm SelectPublicKey a b c d e f g h = refl
is_calm VerifyCertificate a b c d e f g h = absurd (b refl)
is_calm AnnounceTerminal a b c d e f g h = refl
is_calm GetChallenge a b c d e f g h = refl
is_calm ExternalAuthenticate a b c d e f g h = refl
is_calm SelectChipAuthentication a b c d e f g h = refl
is_calm SelectRestrictedIdentification a b c d e f g h = refl
is_calm EncryptedNonce a b c d e f g h = refl
is_calm MapNonce a b c d e f g h = refl
is_calm PerformKeyAgreement a b c d e f g h = refl
is_calm MutualAuthentication a b c d e f g h = absurd (c refl)
is_calm AuthenticateChip a b c d e f g h = refl
is_calm PerformRestrictedIdentification a b c d e f g h = refl
is_calm VerifyAuxiliary a b c d e f g h = refl
is_calm ChangePin a b c d e f g h = absurd (d refl)
is_calm UnblockPin a b c d e f g h = absurd (e refl)
is_calm ChangeCan a b c d e f g h = absurd (f refl)
is_calm ActivatePin a b c d e f g h = absurd (g refl)
is_calm DeactivatePin a b c d e f g h = absurd (h refl)
is_calm NoProtocol a b c d e f g h = refl
is_calm NoStep a b c d e f g h = refl
