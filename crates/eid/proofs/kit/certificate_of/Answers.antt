-- The model coprocessor signs as the definition says.
use Rattle.std.proofs.Common.{◌≡◌, ℕ, List, Result, Ok, Err, ap, ◌∙◌, subst}
use Rattle.std.specs.Prelude.{IfOk, Vec}
use Rattle.std.specs.declared.alloc.Global.{Global}
use Rattle.eid_copro.specs.Asked.{Asked}
use Rattle.eid_copro.specs.Model.{answer_with}
use Rattle.eid_copro.specs.Seen.{CoproSeen}
use Rattle.eid_copro.specs.Told.{Told, Start, IsAsTold}
use Rattle.eid_copro.specs.declared.ask.Answer.TheVariants as answers
use Rattle.eid_cvc.specs.Certificates.{IsCertificate}
use Rattle.eid_cvc.specs.Writing.{certificate_with, written_certificate}
use Rattle.eid_perso.specs.declared.kit.KitError.{KitError}
use Rattle.eid_perso.specs.declared.kit.KitError.TheVariants.{Fault, NoMemory}
use Rattle.eid_perso.specs.Issuing.{IsKit}
use Rattle.eid_perso.specs.Kit.{PlainKit, kit_question, kit_view}
use Rattle.eid.specs.Kit.{kit_signature}
use Rattle.eid.proofs.kit.certificate_of.Goals as goal

one_signature : (s t : List ℕ) → answers.Signed s ≡ answers.Signed t → s ≡ t
one_signature s t same = cc

-- the signature that the model gives
signed : (kit : PlainKit) (old new : CoproSeen) (signature : List ℕ) → old.told ≡ Start 0 → Asked old new (kit_question kit) (answers.Signed signature) → signature ≡ kit_signature kit
unfolding answer_with
signed kit old new signature told asked =
    one_signature _ _ (subst (λ (t : Told). IsAsTold t old.log (kit_question kit) (answers.Signed signature)) told asked.as_told)

bytes_are : (r : Result (Vec ℕ Global) KitError) (kit : PlainKit) (old new : CoproSeen) → old.told ≡ Start 0 → IsKit kit old new r
    → IfOk r (λ bytes. bytes.items ≡ written_certificate kit.body (kit_signature kit))
bytes_are (Ok bytes) kit old new told is = is.is ∙ ap (written_certificate kit.body) (signed kit old new is.signature told is.asked)
bytes_are (Err Fault) kit old new told is = tt
bytes_are (Err NoMemory) kit old new told is = tt

is_read : (r : Result (Vec ℕ Global) KitError) (kit : PlainKit) (old new : CoproSeen) → old.told ≡ Start 0 → IsKit kit old new r
    → IfOk r (λ bytes. IsCertificate bytes.items (certificate_with kit.body (kit_signature kit)))
is_read (Ok bytes) kit old new told is =
    subst (λ (s : List ℕ). IsCertificate bytes.items (certificate_with kit.body s)) (signed kit old new is.signature told is.asked) is.reads
is_read (Err Fault) kit old new told is = tt
is_read (Err NoMemory) kit old new told is = tt

pub returns-clause-bytes : goal.returns-clause-bytes
returns-clause-bytes c = bytes_are c.kit_of.result (kit_view c.args.plan.now) _ _ (c.make_room.ensures.told ∙ c.new-copro.ensures.told) c.kit_of.ensures

pub returns-clause-reads : goal.returns-clause-reads
returns-clause-reads c = is_read c.kit_of.result (kit_view c.args.plan.now) _ _ (c.make_room.ensures.told ∙ c.new-copro.ensures.told) c.kit_of.ensures
