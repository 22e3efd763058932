-- The selection that a body is, as a relation and as a function.
use Rattle.std.proofs.Common.{◌≡◌, ◌↔◌, ℕ, List, [], ◌∷◌, length, Option, Some, None, option_map, refl, sym, ◌∙◌, ap}
use Rattle.std.specs.Option.{option_and_then}
use Rattle.std.specs.Str.{bytes_eq}
use Rattle.std.proofs.lemmas.Option.{cond_some, same_Some}
use Rattle.std.proofs.lemmas.Slice.Eq.{bytes_eq-Decides}
use Rattle.eid_tlv.specs.Objects.{Object}
use Rattle.eid_tlv.specs.Lists.{IsListOf, values}
use Rattle.eid_tlv.specs.ListIn.{list_in}
use Rattle.eid_tlv.proofs.ListIn.{list_in-exact}
use Rattle.eid_tlv.proofs.Findings.{same_values}
use Rattle.eid_cvc.specs.Templates.{template_in, template_value}
use Rattle.eid_cvc.proofs.TemplateFacts.{template_complete, template_found}
use Rattle.eid_pace.specs.Selections.{PlainSelection, IsPaceSelection, HasTemplate}
use Rattle.eid_pace.specs.Protocols.{protocol_bytes, protocol_with}
use Rattle.eid_pace.specs.declared.protocol.Protocol.{Protocol}
use Rattle.eid_pace.specs.declared.protocol.Protocol.TheVariants.{EcdhGmAes128}
use Rattle.eid_pace.specs.SelectionIn.{protocol_in, reference_in, template_if_any, selection_of, selection_by, selection_in}

-- what the values of 7F4C say of the template
abbrev TemplateIs : List (List ℕ) → Option (List ℕ) → Type 0
TemplateIs those None = those ≡ []
TemplateIs those (Some template) = (length template ≡ 5) × (those ≡ template_value template ∷ [])

-- what the values of the three tags say of the selection
record Says (protocols references templates : List (List ℕ)) (selection : PlainSelection) : Type 0 where
  protocol : protocols ≡ protocol_bytes selection.protocol ∷ []
  reference : references ≡ (selection.reference ∷ []) ∷ []
  template : TemplateIs templates selection.template

-- an identifier names exactly the protocol that has it
protocol_named : (bytes : List ℕ) (protocol : Protocol) → protocol_with bytes ≡ Some protocol → bytes ≡ protocol_bytes protocol
protocol_named bytes EcdhGmAes128 h =
    let same = cond_some (bytes_eq bytes (protocol_bytes EcdhGmAes128)) EcdhGmAes128 EcdhGmAes128 h in
    (bytes_eq-Decides bytes (protocol_bytes EcdhGmAes128)).0 same.0

pub named_protocol : (bytes : List ℕ) (protocol : Protocol) → bytes ≡ protocol_bytes protocol → protocol_with bytes ≡ Some protocol
named_protocol bytes EcdhGmAes128 is =
    let same = (bytes_eq-Decides bytes (protocol_bytes EcdhGmAes128)).1 is in
    rw same refl

protocol_is : (those : List (List ℕ)) (protocol : Protocol) → protocol_in those ≡ Some protocol → those ≡ protocol_bytes protocol ∷ []
protocol_is [] protocol h = cc
protocol_is (value ∷ []) protocol h = ap (λ (v : List ℕ). v ∷ []) (protocol_named value protocol h)
protocol_is (value ∷ other ∷ later) protocol h = cc

reference_is : (those : List (List ℕ)) (reference : ℕ) → reference_in those ≡ Some reference → those ≡ (reference ∷ []) ∷ []
reference_is [] reference h = cc
reference_is ([] ∷ []) reference h = cc
reference_is ((byte ∷ []) ∷ []) reference h = cc
reference_is ((byte ∷ second ∷ rest) ∷ []) reference h = cc
reference_is (value ∷ other ∷ later) reference h = cc

templates_are : (those : List (List ℕ)) (template : Option (List ℕ)) → template_if_any those ≡ Some template → TemplateIs those template
templates_are [] None h = refl
templates_are [] (Some template) h = absurd (never template h) where
  never : (template : List ℕ) → ◌≡◌ {A = Option (Option (List ℕ))} (Some None) (Some (Some template)) → ⊥
  never template h = cc
templates_are (value ∷ []) template h = by (template_in value) refl template h where
  none : (template : Option (List ℕ)) → None ≡ Some template → ⊥
  none template h = cc

  some : (t : List ℕ) → ◌≡◌ {A = Option (Option (List ℕ))} (Some (Some t)) (Some None) → ⊥
  some t h = cc

  same : (t template : List ℕ) → ◌≡◌ {A = Option (Option (List ℕ))} (Some (Some t)) (Some (Some template)) → t ≡ template
  same t template h = cc

  by : (o : Option (List ℕ)) → template_in value ≡ o → (template : Option (List ℕ)) → option_map Some o ≡ Some template → TemplateIs (value ∷ []) template
  by None is template h = absurd (none template h)
  by (Some t) is None h = absurd (some t h)
  by (Some t) is (Some template) h =
      let parts = template_found value template (is ∙ ap Some (same t template h)) in
      (parts.0, ap (λ (v : List ℕ). v ∷ []) parts.1)
templates_are (value ∷ other ∷ later) template h = absurd (none template h) where
  none : (template : Option (List ℕ)) → None ≡ Some template → ⊥
  none template h = cc

are_templates : (those : List (List ℕ)) (template : Option (List ℕ)) → TemplateIs those template → template_if_any those ≡ Some template
are_templates those None is = rw is refl
are_templates those (Some template) is = rw is.1 (ap (λ (o : Option (List ℕ)). option_map Some o) (template_complete (template_value template) template is.0 refl))

says : (protocols references templates : List (List ℕ)) (selection : PlainSelection) → selection_by protocols references templates ≡ Some selection
    → Says protocols references templates selection
says protocols references templates selection h =
    parts (protocol_in protocols) refl (reference_in references) refl (template_if_any templates) refl h where
      none : None ≡ Some selection → ⊥
      none h = cc

      parts : (p : Option Protocol) → protocol_in protocols ≡ p → (r : Option ℕ) → reference_in references ≡ r
          → (t : Option (Option (List ℕ))) → template_if_any templates ≡ t → selection_of p r t ≡ Some selection
          → Says protocols references templates selection
      parts None d r e t f h = absurd (none h)
      parts (Some p) d None e t f h = absurd (none h)
      parts (Some p) d (Some r) e None f h = absurd (none h)
      parts (Some p) d (Some r) e (Some t) f h =
          let same = same_Some (record { protocol = p; reference = r; template = t }) selection h in
          record {
            protocol = protocol_is protocols selection.protocol (d ∙ ap (λ (s : PlainSelection). Some s.protocol) same);
            reference = reference_is references selection.reference (e ∙ ap (λ (s : PlainSelection). Some s.reference) same);
            template = templates_are templates selection.template (f ∙ ap (λ (s : PlainSelection). Some s.template) same);
          }

said : (protocols references templates : List (List ℕ)) (selection : PlainSelection) → Says protocols references templates selection
    → selection_by protocols references templates ≡ Some selection
said protocols references templates selection is =
    let protocol : protocol_in protocols ≡ Some selection.protocol =
    ap protocol_in is.protocol ∙ named_protocol (protocol_bytes selection.protocol) selection.protocol refl in
    let reference : reference_in references ≡ Some selection.reference = ap reference_in is.reference in
    let template = are_templates templates selection.template is.template in
    rw (protocol, reference, template) refl

has_template : (body : List ℕ) (list : List Object) (template : Option (List ℕ)) → IsListOf list body → TemplateIs (values 0x7F4C list) template
    → HasTemplate body template
has_template body list None is those = record { list = list; is_list = is; those = those }
has_template body list (Some template) is those = (those.0, record { list = list; is_list = is; those = those.1 })

template_of : (body : List ℕ) (list : List Object) (template : Option (List ℕ)) → IsListOf list body → HasTemplate body template
    → TemplateIs (values 0x7F4C list) template
template_of body list None is has = same_values 0x7F4C body has.list list [] has.is_list is has.those
template_of body list (Some template) is has =
    (has.0, same_values 0x7F4C body has.1.list list (template_value template ∷ []) has.1.is_list is has.1.those)

found : (body : List ℕ) (selection : PlainSelection) → selection_in body ≡ Some selection → IsPaceSelection body selection
unfolding selection_in
found body selection h = by (list_in body) refl h where
  none : None ≡ Some selection → ⊥
  none h = cc

  by : (o : Option (List Object)) → list_in body ≡ o
      → option_and_then (λ list. selection_by (values 0x80 list) (values 0x83 list) (values 0x7F4C list)) o ≡ Some selection
      → IsPaceSelection body selection
  by None listed h = absurd (none h)
  by (Some list) listed h =
      let is = (list_in-exact body list).0 listed in
      let those = says (values 0x80 list) (values 0x83 list) (values 0x7F4C list) selection h in
      record {
        protocol = record { list = list; is_list = is; those = those.protocol };
        reference = record { list = list; is_list = is; those = those.reference };
        template = has_template body list selection.template is those.template;
      }

complete : (body : List ℕ) (selection : PlainSelection) → IsPaceSelection body selection → selection_in body ≡ Some selection
unfolding selection_in
complete body selection is =
    let list : List Object = is.protocol.list in
    let listed : list_in body ≡ Some list = (list_in-exact body list).1 is.protocol.is_list in
    rw listed
    (said (values 0x80 list) (values 0x83 list) (values 0x7F4C list) selection record {
      protocol = is.protocol.those;
      reference = same_values 0x83 body is.reference.list list ((selection.reference ∷ []) ∷ []) is.reference.is_list is.protocol.is_list is.reference.those;
      template = template_of body list selection.template is.protocol.is_list is.template;
    })

pub selection_in-exact : (body : List ℕ) (selection : PlainSelection) → selection_in body ≡ Some selection ↔ IsPaceSelection body selection
selection_in-exact body selection = (found body selection, complete body selection)

-- a body that is no selection
pub selection_in-none : (body : List ℕ) → ((selection : PlainSelection) → IsPaceSelection body selection → ⊥) → None ≡ selection_in body
selection_in-none body none = by (selection_in body) refl where
  by : (o : Option PlainSelection) → selection_in body ≡ o → None ≡ selection_in body
  by None is = sym is
  by (Some selection) is = absurd (none selection (found body selection is))
