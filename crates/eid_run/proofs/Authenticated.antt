-- Terminal authentication between a terminal and the chip that accepted its certificates: it succeeds.
use Rattle.std.proofs.Common.{◌≡◌, ℕ, ◌+◌, ◌≤◌, true, false, ◌==◌, ◌&&◌, List, [], ◌∷◌, ◌++◌, length, Option, Some, None, Ok, refl, sym, ap, ◌∙◌, subst, arith, append_assoc, drop, eq-eqb, length-append}
use Rattle.std.specs.Prelude.{is_none, option_map, replicate, IfSome, IsSome, IsTrue}
use Rattle.std.specs.Char.{is_ascii_digit}
use Rattle.std.specs.List.{All, list_all}
use Rattle.std.specs.Option.{option_to_list}
use Rattle.std.specs.Str.{bytes_eq}
use Rattle.std.proofs.lemmas.Bool.{and_parts, eqb-true}
use Rattle.std.proofs.lemmas.Bool.Decides.{nat_tests}
use Rattle.std.proofs.lemmas.List.{append-nil}
use Rattle.std.proofs.lemmas.List.Elements.{All-head}
use Rattle.std.proofs.lemmas.Slice.Eq.{bytes_eq-Decides}
use Rattle.sha2.specs.Sha256.{sha256}
use Rattle.sha2.proofs.Facts256.{length-sha256}
use Rattle.eid_apdu.specs.Answer.{PlainReply}
use Rattle.eid_apdu.specs.Command.{PlainCommand}
use Rattle.eid_bits.specs.Date.{digits_of, is_between, is_date, is_long_date}
use Rattle.eid_bits.specs.Identifiers.{known_bytes}
use Rattle.eid_bits.specs.declared.identifier.Known.{Known}
use Rattle.eid_bits.specs.declared.identifier.Known.TheVariants as known
use Rattle.eid_copro.specs.Model.{answer_with, random_block, signature_of}
use Rattle.eid_copro.specs.Numbers.{generator, point_of, public_of, secret_of, times}
use Rattle.eid_copro.specs.declared.ask.Ask.{Ask}
use Rattle.eid_copro.specs.declared.ask.Answer.{Answer}
use Rattle.eid_copro.specs.declared.ask.Answer.TheVariants as answers
use Rattle.eid_copro.specs.declared.ask.Question.{Question}
use Rattle.eid_copro.specs.declared.ask.Question.TheVariants as questions
use Rattle.eid_cvc.specs.Certificates.{IsReference}
use Rattle.eid_cvc.specs.Chains.{PlainAux, PlainChain, PlainParty, PlainTerminalKnown, no_chain}
use Rattle.eid_cvc.specs.PublicKeys.{x_half}
use Rattle.eid_cvc.proofs.Sizes.{object_fits}
use Rattle.eid_record.specs.Plain.{FullRecord}
use Rattle.eid_sm.specs.Keys.{ChannelState}
use Rattle.eid_ta.specs.Announcements.{AreDataIn, IsAnnouncement}
use Rattle.eid_ta.specs.AnnouncementIn.{announcement_in, whole}
use Rattle.eid_ta.specs.Announcing.{announced_by, announced_with, known_by, signed_bytes}
use Rattle.eid_ta.specs.Auxiliary.{AreValid, entries, entry_bytes, values_of}
use Rattle.eid_ta.specs.AuxiliaryIn.{PlainEntry, is_community}
use Rattle.eid_ta.specs.States.{PlainAnnounced, PlainAnnouncement, PlainChallenged}
use Rattle.eid_ta.proofs.AnnouncementFacts.{announcement_in-exact}
use Rattle.eid_tlv.specs.Lists.{IsListOf}
use Rattle.eid_tlv.specs.Objects.{Object, object, tag_bytes}
use Rattle.eid_model.specs.declared.kind.Kind.TheVariants.{AnnounceTerminal, ExternalAuthenticate, GetChallenge}
use Rattle.eid_model.specs.Answers.{data_alone, outcome_by, question_by, status_alone}
use Rattle.eid_model.specs.Legal.{AreAsked}
use Rattle.eid_model.specs.Rules.{LAST_NUMBER, RuleRow, answer_rules, commit_rules, first_failed, kind_rules, proof_rules}
use Rattle.eid_model.specs.Runs.{Announced, Challenged, Idle, claimed, entered}
use Rattle.eid_model.specs.Sessions.{PaceMemory, State, unchained}
use Rattle.eid_model.proofs.Books.{nothing_due_by}
use Rattle.eid_chip.specs.Steps.{known as known_at}
use Rattle.eid_chip.specs.Transitions.{state_carried_out, state_refused}
use Rattle.eid_chip.proofs.CarriedOut.{unasked_at}
use Rattle.eid_chip.proofs.PaceSteps.{moved}
use Rattle.eid_chip.proofs.TerminalSteps.{announcement_leaves, announcement_passes}
use Rattle.eid_terminal.specs.Authentication.{after_challenge, authenticate_chip, authenticate_terminal, imports, last_holder, to_sign}
use Rattle.eid_terminal.specs.Commands.{announce, announcement, auxiliary, compared, external_authenticate, get_challenge, whole_auxiliary}
use Rattle.eid_terminal.specs.Courses.{Course, Passes}
use Rattle.eid_terminal.specs.Exchanges.{by_pair, by_signed, exchange, expecting}
use Rattle.eid_terminal.specs.Plans.{IsCommunity, IsFit, PlainPlan}
use Rattle.eid_terminal.specs.Replies.{challenge_in}
use Rattle.eid_terminal.proofs.AuthenticationSteps.{challenge_came}
use Rattle.eid_terminal.specs.declared.action.Step.TheVariants as steps
use Rattle.eid_run.specs.Conversations.{Passed, Told}
use Rattle.eid_run.specs.Honest.{IsCertified}
use Rattle.eid_run.specs.Promised.{aux_of}
use Rattle.eid_run.proofs.Agreeing.{pair_given}
use Rattle.eid_run.proofs.Along.{AtCourse, IsHandledSo, IsKnown, IsPaced, Way, answered_so, carried_with, handled_so, passed_so}
use Rattle.eid_run.proofs.Certified.{HasChain, IsWhole, chain_from_above, imported, right_found, template_given, whole_chain}
use Rattle.eid_run.proofs.Given.{challenge_given}
use Rattle.eid_run.proofs.Going.{IsGiven}
use Rattle.eid_run.proofs.Stepping.{HasSize, none_asked, one_asked}
use Rattle.eid_run.proofs.Turns.{IsOfKind}

-- ---- what is to be compared

-- an entry, where there is something to be compared
abbrev entry_if : Known → Option (List ℕ) → List PlainEntry
entry_if identifier None = []
entry_if identifier (Some value) = record { identifier = known_bytes identifier; value = value } ∷ []

-- those for date of birth, expiry and community
abbrev entries_of : PlainAux → List PlainEntry
entries_of aux = entry_if known.Birth aux.birth ++ (entry_if known.Expiry aux.expiry ++ entry_if known.Community aux.community)

first_entry : (identifier : Known) (value : Option (List ℕ)) (later : List PlainEntry) → compared identifier value ++ entries later ≡ entries (entry_if identifier value ++ later)
first_entry identifier None later = refl
first_entry identifier (Some value) later = refl

last_entry : (identifier : Known) (value : Option (List ℕ)) → compared identifier value ≡ entries (entry_if identifier value)
last_entry identifier None = refl
last_entry identifier (Some value) = sym (append-nil (entry_bytes (record { identifier = known_bytes identifier; value = value })))

-- what the terminal sends, one behind the other
abbrev compared_all : PlainAux → List ℕ
compared_all aux = compared known.Birth aux.birth ++ compared known.Expiry aux.expiry ++ compared known.Community aux.community

compared_entries : (aux : PlainAux) → compared_all aux ≡ entries (entries_of aux)
compared_entries aux =
    append_assoc (compared known.Birth aux.birth) (compared known.Expiry aux.expiry) (compared known.Community aux.community)
    ∙ ap (λ (rest : List ℕ). compared known.Birth aux.birth ++ (compared known.Expiry aux.expiry ++ rest)) (last_entry known.Community aux.community)
    ∙ ap (λ (rest : List ℕ). compared known.Birth aux.birth ++ rest) (first_entry known.Expiry aux.expiry (entry_if known.Community aux.community))
    ∙ first_entry known.Birth aux.birth (entry_if known.Expiry aux.expiry ++ entry_if known.Community aux.community)

one_entry : (identifier : Known) (value : Option (List ℕ)) → length (entry_if identifier value) ≤ 1
one_entry identifier None = omega arith
one_entry identifier (Some value) = omega arith

three_entries : (aux : PlainAux) → length (entries_of aux) ≤ 3
three_entries aux =
    let birth : List PlainEntry = entry_if known.Birth aux.birth in
    let expiry : List PlainEntry = entry_if known.Expiry aux.expiry in
    let community : List PlainEntry = entry_if known.Community aux.community in
    omega (
      arith,
      length-append birth (expiry ++ community),
      length-append expiry community,
      one_entry known.Birth aux.birth,
      one_entry known.Expiry aux.expiry,
      one_entry known.Community aux.community,
    )

-- each value stands in its entry
record AreSaid (list : List PlainEntry) (aux : PlainAux) : Type 0 where
  birth : values_of known.Birth list ≡ option_to_list aux.birth
  expiry : values_of known.Expiry list ≡ option_to_list aux.expiry
  community : values_of known.Community list ≡ option_to_list aux.community

said_so : (birth expiry community : Option (List ℕ)) → AreSaid (entries_of (record { birth = birth; expiry = expiry; community = community })) (record { birth = birth; expiry = expiry; community = community })
said_so None None None = record { birth = refl; expiry = refl; community = refl }
said_so None None (Some c) = record { birth = refl; expiry = refl; community = refl }
said_so None (Some x) None = record { birth = refl; expiry = refl; community = refl }
said_so None (Some x) (Some c) = record { birth = refl; expiry = refl; community = refl }
said_so (Some b) None None = record { birth = refl; expiry = refl; community = refl }
said_so (Some b) None (Some c) = record { birth = refl; expiry = refl; community = refl }
said_so (Some b) (Some x) None = record { birth = refl; expiry = refl; community = refl }
said_so (Some b) (Some x) (Some c) = record { birth = refl; expiry = refl; community = refl }

-- An object 67 with these data, or nothing where there are none.
record HasData (sent : List ℕ) (aux : PlainAux) : Type 0 where
  value : Option (List ℕ)
  is_whole : sent ≡ whole value
  says : AreDataIn value aux
  short : IfSome value (λ v. length v ≤ 1000)

none_listed : (o : Option (List ℕ)) → [] ≡ option_to_list o → o ≡ None
none_listed None is = refl
none_listed (Some value) is = absurd (cc)

data_from : (list : List PlainEntry) (bytes : List ℕ) (aux : PlainAux) → bytes ≡ entries list → AreSaid list aux → AreValid aux → length list ≤ 3 → length bytes ≤ 1000 → HasData (whole_auxiliary bytes) aux
unfolding object tag_bytes
data_from [] bytes aux spelled said valid few short = record {
  value = None;
  is_whole = ap whole_auxiliary spelled;
  says =
      let birth : aux.birth ≡ None = none_listed aux.birth said.birth in
      let expiry : aux.expiry ≡ None = none_listed aux.expiry said.expiry in
      let community : aux.community ≡ None = none_listed aux.community said.community in
      ap (λ (x : Option (List ℕ)). record { birth = x; expiry = aux.expiry; community = aux.community }) birth
      ∙ ap (λ (x : Option (List ℕ)). record { birth = None; expiry = x; community = aux.community }) expiry
      ∙ ap (λ (x : Option (List ℕ)). record { birth = None; expiry = None; community = x }) community;
  short = tt;
}
data_from (e ∷ list) bytes aux spelled said valid few short = record {
  value = Some (entries (e ∷ list));
  is_whole = ap whole_auxiliary spelled;
  says = record { list = e ∷ list; spelled = refl; some = omega arith; few = few; valid = valid; birth = said.birth; expiry = said.expiry; community = said.community };
  short = subst (λ (b : List ℕ). length b ≤ 1000) spelled short;
}

-- a value of at most 16 bytes makes a short entry
compared_short : (identifier : Known) (value : Option (List ℕ)) → length (known_bytes identifier) ≤ 20 → IfSome value (λ v. length v ≤ 16) → length (compared identifier value) ≤ 60
compared_short identifier None named small = omega arith
compared_short identifier (Some value) named small =
    let inner : List ℕ = object 0x06 (known_bytes identifier) ++ object 0x53 value in
    omega (arith, object_fits 0x73 inner, length-append (object 0x06 (known_bytes identifier)) (object 0x53 value), object_fits 0x06 (known_bytes identifier), object_fits 0x53 value, named, small)

all_short : (aux : PlainAux) → IfSome aux.birth (λ v. length v ≤ 16) → IfSome aux.expiry (λ v. length v ≤ 16) → IfSome aux.community (λ v. length v ≤ 16) → length (compared_all aux) ≤ 1000
all_short aux birth expiry community =
    let b : List ℕ = compared known.Birth aux.birth in
    let x : List ℕ = compared known.Expiry aux.expiry in
    let c : List ℕ = compared known.Community aux.community in
    omega (
      arith,
      length-append (b ++ x) c,
      length-append b x,
      compared_short known.Birth aux.birth (omega arith) birth,
      compared_short known.Expiry aux.expiry (omega arith) expiry,
      compared_short known.Community aux.community (omega arith) community,
    )

-- a date has eight digits
date_short : (date : Option (List ℕ)) → IfSome date (λ d. IsTrue (is_long_date d)) → IfSome date (λ d. length d ≤ 16)
date_short None is = tt
date_short (Some date) is =
    let size : (length date == 8) ≡ true = (and_parts (length date == 8) (list_all is_ascii_digit date) (and_parts (length date == 8 && list_all is_ascii_digit date) (is_date (drop 2 (digits_of date))) is).0).0 in
    omega (arith, eqb-true (length date) 8 size)

community_short : (community : Option (List ℕ)) → IfSome community IsCommunity → IfSome community (λ c. length c ≤ 16)
community_short None is = tt
community_short (Some community) is = is.short

community_valid : (community : Option (List ℕ)) → IfSome community IsCommunity → IfSome community (λ c. IsTrue (is_community c))
community_valid None is = tt
community_valid (Some community) is = between (length community) is.some is.short where
  between : (n : ℕ) → 1 ≤ n → n ≤ 16 → is_between 1 16 n ≡ true
  between n low high = grind (arith, nat_tests)

-- What a plan has to be compared is of its form.
pub record CanCompare (plan : PlainPlan) : Type 0 where
  pub age : IfSome plan.age (λ date. IsTrue (is_long_date date))
  pub validity : IfSome plan.validity (λ date. IsTrue (is_long_date date))
  pub community : IfSome plan.community IsCommunity

-- the terminal sends the data of its plan
data_sent : (plan : PlainPlan) → CanCompare plan → HasData (auxiliary plan) (aux_of plan)
unfolding auxiliary
data_sent plan can =
    let aux : PlainAux = aux_of plan in
    data_from (entries_of aux) (compared_all aux) aux (compared_entries aux) (said_so plan.age plan.validity plan.community)
    (record { birth = can.age; expiry = can.validity; community = community_valid plan.community can.community }) (three_entries aux)
    (all_short aux (date_short plan.age can.age) (date_short plan.validity can.validity) (community_short plan.community can.community))

-- ---- the announcement

-- the objects of an announcement
abbrev announced_objects : (name key_x : List ℕ) → Option (List ℕ) → List Object
announced_objects name key_x None =
    record { tag = 0x80; value = known_bytes known.TaSha256 } ∷ record { tag = 0x83; value = name } ∷ record { tag = 0x91; value = key_x } ∷ []
announced_objects name key_x (Some value) =
    record { tag = 0x80; value = known_bytes known.TaSha256 } ∷ record { tag = 0x83; value = name } ∷ record { tag = 0x91; value = key_x }
    ∷ record { tag = 0x67; value = value } ∷ []

in_order : (a b c d : List ℕ) → a ++ b ++ c ++ d ≡ a ++ (b ++ (c ++ d))
in_order a b c d = append_assoc (a ++ b) c d ∙ append_assoc a b (c ++ d)

announced_list : (name key_x : List ℕ) (value : Option (List ℕ)) → IsReference name → length key_x ≡ 32 → IfSome value (λ v. length v ≤ 1000)
    → IsListOf (announced_objects name key_x value) (announcement name key_x (whole value))
unfolding announcement
announced_list name key_x None is size short = record {
  fit = (record { tagged = refl; sized = omega arith }, (record { tagged = refl; sized = omega (arith, is.1) }, (record { tagged = refl; sized = omega (arith, size) }, tt)));
  spelled = in_order (object 0x80 (known_bytes known.TaSha256)) (object 0x83 name) (object 0x91 key_x) [];
}
announced_list name key_x (Some value) is size short = record {
  fit = (
    record { tagged = refl; sized = omega arith },
    (
      record { tagged = refl; sized = omega (arith, is.1) },
      (
        record { tagged = refl; sized = omega (arith, size) },
        (record { tagged = refl; sized = omega (arith, short) }, tt),
      ),
    ),
  );
  spelled =
      in_order (object 0x80 (known_bytes known.TaSha256)) (object 0x83 name) (object 0x91 key_x) (object 0x67 value)
      ∙ ap (λ (rest : List ℕ). object 0x80 (known_bytes known.TaSha256) ++ (object 0x83 name ++ (object 0x91 key_x ++ rest))) (sym (append-nil (object 0x67 value)));
}

is_announced : (name key_x : List ℕ) (value : Option (List ℕ)) (aux : PlainAux) (body : List ℕ) → IsListOf (announced_objects name key_x value) body → IsReference name → length key_x ≡ 32 → AreDataIn value aux
    → IsAnnouncement body (record { reference = name; key_x = key_x; sent = whole value; aux = aux })
is_announced name key_x None aux body listed is size says = record {
  protocol = record { list = announced_objects name key_x None; is_list = listed; those = refl };
  reference = record { list = announced_objects name key_x None; is_list = listed; those = refl };
  some = is.0;
  short = is.1;
  key_x = record { list = announced_objects name key_x None; is_list = listed; those = refl };
  size = size;
  auxiliary = record { value = None; those = record { list = announced_objects name key_x None; is_list = listed; those = refl }; is_whole = refl; says = says };
}
is_announced name key_x (Some value) aux body listed is size says = record {
  protocol = record { list = announced_objects name key_x (Some value); is_list = listed; those = refl };
  reference = record { list = announced_objects name key_x (Some value); is_list = listed; those = refl };
  some = is.0;
  short = is.1;
  key_x = record { list = announced_objects name key_x (Some value); is_list = listed; those = refl };
  size = size;
  auxiliary = record { value = Some value; those = record { list = announced_objects name key_x (Some value); is_list = listed; those = refl }; is_whole = refl; says = says };
}

-- what a terminal of this name announces
abbrev pub announcement_by : PlainPlan → (name key_x : List ℕ) → PlainAnnouncement
announcement_by plan name key_x = record { reference = name; key_x = key_x; sent = auxiliary plan; aux = aux_of plan }

-- the chip reads what the terminal announces
announcement_read : (plan : PlainPlan) (name key_x : List ℕ) → CanCompare plan → IsReference name → length key_x ≡ 32
    → announcement_in (announcement name key_x (auxiliary plan)) ≡ Some (announcement_by plan name key_x)
announcement_read plan name key_x can is size =
    let sends = data_sent plan can in
    let reads : announcement_in (announcement name key_x (whole sends.value)) ≡ Some (record { reference = name; key_x = key_x; sent = whole sends.value; aux = aux_of plan }) =
    (announcement_in-exact (announcement name key_x (whole sends.value)) _).1
    (is_announced name key_x sends.value (aux_of plan) _ (announced_list name key_x sends.value is size sends.short) is size sends.says) in
    subst (λ (sent : List ℕ). announcement_in (announcement name key_x sent) ≡ Some (record { reference = name; key_x = key_x; sent = sent; aux = aux_of plan })) (sym sends.is_whole) reads

whole_short : (value : Option (List ℕ)) → IfSome value (λ v. length v ≤ 1000) → length (whole value) ≤ 1005
whole_short None short = omega arith
whole_short (Some value) short = omega (arith, object_fits 0x67 value, short)

auxiliary_short : (plan : PlainPlan) → CanCompare plan → length (auxiliary plan) ≤ 1005
auxiliary_short plan can =
    let sends = data_sent plan can in
    subst (λ (sent : List ℕ). length sent ≤ 1005) (sym sends.is_whole) (whole_short sends.value sends.short)

announce_size : (plan : PlainPlan) (name key_x : List ℕ) → CanCompare plan → IsReference name → length key_x ≡ 32 → HasSize (announce name key_x (auxiliary plan))
unfolding announcement
announce_size plan name key_x can is size =
    let protocol : List ℕ = object 0x80 (known_bytes known.TaSha256) in
    let reference : List ℕ = object 0x83 name in
    let key : List ℕ = object 0x91 key_x in
    record {
      short = omega (
        arith,
        length-append (protocol ++ reference ++ key) (auxiliary plan),
        length-append (protocol ++ reference) key,
        length-append protocol reference,
        object_fits 0x80 (known_bytes known.TaSha256),
        object_fits 0x83 name,
        object_fits 0x91 key_x,
        auxiliary_short plan can,
        is.1,
        size,
      );
      most = omega arith;
      class = refl;
    }

announce_kind : (s : State) (name key_x sent : List ℕ) → IsOfKind (unchained s) (announce name key_x sent) AnnounceTerminal
announce_kind s name key_x sent = record { unchained = refl; named = refl; passes = λ full given. refl }

-- a whole chain lets its terminal announce itself
announced_so : (chain : PlainChain) (terminal : PlainParty) (is : IsWhole chain terminal) (a : PlainAnnouncement) → a.reference ≡ terminal.name
    → Ok (announced_with is.root is.verifier terminal chain.sectors a) ≡ announced_by chain a
announced_so chain terminal is a named =
    let same : bytes_eq a.reference terminal.name ≡ true = (bytes_eq-Decides a.reference terminal.name).1 named in
    let root = is.root_is in
    let verifier = is.verifier_is in
    let ends = is.terminal_is in
    rw (root, verifier, ends, same) refl

-- where a terminal has announced itself
abbrev pub announced_state : State → (identity : List ℕ) → PlainAnnounced → State
announced_state s identity announced = moved (Some GetChallenge) Idle (Announced identity announced) (unchained s)

-- the chip takes the announcement
pub announced_terminal : (w : Way) (full : FullRecord) (s : State) (memory : PaceMemory) (chain : PlainChain) (terminal : PlainParty) (plan : PlainPlan) (identity name key_x : List ℕ) (later : Option ChannelState → PlainReply → Course) (told : List Told)
    → HasChain s memory chain → IsSome memory.template → memory.identity ≡ identity → (is : IsWhole chain terminal) → name ≡ terminal.name → CanCompare plan → length key_x ≡ 32
    → AtCourse w full (unchained s) (exchange steps.Ta (announce name key_x (auxiliary plan)) later s.channel) told
    → AtCourse w full (announced_state s identity (announced_with is.root is.verifier terminal chain.sectors (announcement_by plan name key_x)))
    (later (announced_state s identity (announced_with is.root is.verifier terminal chain.sectors (announcement_by plan name key_x))).channel (status_alone 0x9000)) told
announced_terminal w full s memory chain terminal plan identity name key_x later told has template same is named can size at =
    let a : PlainAnnouncement = announcement_by plan name key_x in
    let announced : PlainAnnounced = announced_with is.root is.verifier terminal chain.sectors a in
    let c : PlainCommand = announce name key_x (auxiliary plan) in
    let old : State = unchained s in
    let reference : IsReference name = subst IsReference (sym named) is.named in
    let did : IsHandledSo w full s AnnounceTerminal c later told =
    handled_so w full s AnnounceTerminal steps.Ta c later told (announce_kind s name key_x (auxiliary plan)) (announce_size plan name key_x can reference size) at in
    let silent : did.asks ≡ [] =
    none_asked (λ given. question_by kind_rules (known_at AnnounceTerminal full old c given)) [] did.asks did.asked
    (unasked_at (is_none (first_failed (kind_rules ++ answer_rules) (known_at AnnounceTerminal full old c []))) None refl) in
    let reads = announcement_read plan name key_x can reference size in
    let allows = template_given s memory chain has template in
    let gives : Ok announced ≡ announced_by s.certificates a = announced_so chain terminal is a named ∙ ap (λ (x : PlainChain). announced_by x a) (sym has.certificates) in
    let whose : option_map (λ (pace : PaceMemory). pace.identity) s.pace ≡ Some identity = ap (option_map (λ (pace : PaceMemory). pace.identity)) has.pace ∙ ap (λ (i : List ℕ). Some i) same in
    let rules = announcement_passes full old c a announced reads allows.0 allows.1 allows.2 gives in
    carried_with w full s (announced_state s identity announced) AnnounceTerminal c later told (status_alone 0x9000) [] [] did silent
    (ap (λ (f : Option RuleRow). outcome_by f (known_at AnnounceTerminal full old c [])) rules)
    (nothing_due_by kind_rules (known_at AnnounceTerminal full old c []) refl)
    (sym (announcement_leaves full old c a identity announced reads whose gives)) refl

-- ---- the challenge

challenge_kind : (s : State) → s.next ≡ Some GetChallenge → IsOfKind (unchained s) get_challenge GetChallenge
challenge_kind s next = record { unchained = refl; named = rw next refl; passes = λ full given. refl }

-- the challenge is the one question
challenge_next : (full : FullRecord) (s : State) (identity : List ℕ) (announced : PlainAnnounced) → s.authentication ≡ Announced identity announced
    → question_by kind_rules (known_at GetChallenge full (unchained s) get_challenge []) ≡ Some questions.Challenge
challenge_next full s identity announced begun = rw begun refl

challenge_last : (full : FullRecord) (s : State) (identity : List ℕ) (announced : PlainAnnounced) (challenge : List ℕ) → s.authentication ≡ Announced identity announced
    → question_by kind_rules (known_at GetChallenge full (unchained s) get_challenge (answers.Challenge challenge ∷ [])) ≡ None
challenge_last full s identity announced challenge begun = rw begun refl

challenge_ask : List ℕ → Ask
challenge_ask challenge = record { question = questions.Challenge; answer = answers.Challenge challenge }

-- where the challenge was sent
abbrev pub challenged_state : State → (identity : List ℕ) → PlainAnnounced → (challenge : List ℕ) → State
challenged_state s identity announced challenge =
    moved (Some ExternalAuthenticate) Idle (Challenged identity (record { announced = announced; challenge = challenge })) (unchained s)

challenge_left : (full : FullRecord) (s : State) (identity : List ℕ) (announced : PlainAnnounced) (challenge : List ℕ) → s.authentication ≡ Announced identity announced
    → state_carried_out full.fields GetChallenge get_challenge (answers.Challenge challenge ∷ []) (unchained s) ≡ challenged_state s identity announced challenge
unfolding entered claimed
challenge_left full s identity announced challenge begun = rw begun refl

-- The chip drew a challenge, and sent it.
pub record IsChallengeSent (w : Way) (full : FullRecord) (s : State) (identity : List ℕ) (announced : PlainAnnounced) (later : Option ChannelState → PlainReply → Course) (told : List Told) : Type 0 where
  pub challenge : List ℕ
  pub size : length challenge ≡ 8
  pub goes : AtCourse w full (challenged_state s identity announced challenge) (later (challenged_state s identity announced challenge).channel (data_alone challenge)) told

pub challenge_sent : (w : Way) (full : FullRecord) (s : State) (identity : List ℕ) (announced : PlainAnnounced) (later : Option ChannelState → PlainReply → Course) (told : List Told)
    → s.next ≡ Some GetChallenge → s.authentication ≡ Announced identity announced
    → AtCourse w full (unchained s) (exchange steps.Ta get_challenge later s.channel) told → IsChallengeSent w full s identity announced later told
unfolding challenge_ask
challenge_sent w full s identity announced later told next begun at =
    let old : State = unchained s in
    let did : IsHandledSo w full s GetChallenge get_challenge later told =
    handled_so w full s GetChallenge steps.Ta get_challenge later told (challenge_kind s next) (record { short = omega arith; most = omega arith; class = refl }) at in
    let puts : List Answer → Option Question = λ given. question_by kind_rules (known_at GetChallenge full old get_challenge given) in
    let first = one_asked puts [] did.asks questions.Challenge did.asked (challenge_next full s identity announced begun) in
    let ask : Ask = record { question = questions.Challenge; answer = first.answer } in
    let drawn = challenge_given ask (All-head IsGiven ask first.later (subst (All IsGiven) first.is did.given)) refl in
    let challenge : List ℕ = drawn.challenge in
    let nothing : first.later ≡ [] =
    none_asked puts (answers.Challenge challenge ∷ []) first.later (subst (λ (x : Answer). AreAsked puts (x ∷ []) first.later) drawn.is first.asked) (challenge_last full s identity announced challenge begun) in
    let those : did.asks ≡ challenge_ask challenge ∷ [] =
    first.is ∙ ap (λ (l : List Ask). ask ∷ l) nothing ∙ ap (λ (x : Answer). record { question = questions.Challenge; answer = x } ∷ []) drawn.is in
    record {
      challenge = challenge;
      size = drawn.size;
      goes = carried_with w full s (challenged_state s identity announced challenge) GetChallenge get_challenge later told (data_alone challenge) [] (challenge_ask challenge ∷ []) did those
          refl (nothing_due_by kind_rules (known_at GetChallenge full old get_challenge (answers.Challenge challenge ∷ [])) refl)
          (challenge_left full s identity announced challenge begun) refl;
    }

-- the terminal finds it in the reply
challenge_found : (challenge : List ℕ) → length challenge ≡ 8 → challenge_in (data_alone challenge) ≡ Some challenge
unfolding challenge_in
challenge_found challenge size = rw (eq-eqb (length challenge) 8 size) refl

-- ---- the signature

-- the model signs so
sign_given : (ask : Ask) (secret digest : List ℕ) → IsGiven ask → ask.question ≡ questions.Sign secret digest → ask.answer ≡ answers.Signed (signature_of (public_of secret) digest)
unfolding answer_with
sign_given ask secret digest given is = given.by_model ∙ ap (answer_with (random_block given.start given.number)) is

signature_size : (key digest : List ℕ) → length (signature_of key digest) ≡ 64
unfolding signature_of
signature_size key digest = omega (arith, length-append (sha256 (key ++ digest)) (replicate 32 0), length-sha256 (key ++ digest))

signature_kind : (s : State) (signature : List ℕ) → s.next ≡ Some ExternalAuthenticate → IsOfKind (unchained s) (external_authenticate signature) ExternalAuthenticate
signature_kind s signature next = record { unchained = refl; named = rw next refl; passes = λ full given. refl }

-- the question whether that is the terminal's signature
abbrev signature_question : (identity : List ℕ) → PlainChallenged → (signature : List ℕ) → Question
signature_question identity challenged signature = questions.Verify challenged.announced.key (sha256 (signed_bytes identity challenged)) signature

signature_next : (full : FullRecord) (s : State) (identity : List ℕ) (challenged : PlainChallenged) (signature : List ℕ) → s.authentication ≡ Challenged identity challenged → length signature ≡ 64
    → question_by kind_rules (known_at ExternalAuthenticate full (unchained s) (external_authenticate signature) []) ≡ Some (signature_question identity challenged signature)
signature_next full s identity challenged signature begun size =
    let sized : (length signature == 64) ≡ true = eq-eqb (length signature) 64 size in
    rw (sized, begun) refl

signature_last : (full : FullRecord) (s : State) (identity : List ℕ) (challenged : PlainChallenged) (signature : List ℕ) → s.authentication ≡ Challenged identity challenged → length signature ≡ 64
    → question_by kind_rules (known_at ExternalAuthenticate full (unchained s) (external_authenticate signature) (answers.Verdict true ∷ [])) ≡ None
signature_last full s identity challenged signature begun size =
    let sized : (length signature == 64) ≡ true = eq-eqb (length signature) 64 size in
    rw (sized, begun) refl

signature_rules : (full : FullRecord) (s : State) (signature : List ℕ) → length signature ≡ 64
    → first_failed (kind_rules ++ answer_rules ++ commit_rules ++ proof_rules) (known_at ExternalAuthenticate full (unchained s) (external_authenticate signature) (answers.Verdict true ∷ [])) ≡ None
signature_rules full s signature size =
    let sized : (length signature == 64) ≡ true = eq-eqb (length signature) 64 size in
    rw sized refl

-- where the terminal is known
abbrev pub known_state : State → PlainTerminalKnown → State
known_state s terminal = record (state_refused s) { terminal = Some terminal; chip_proven = false }

signature_left : (full : FullRecord) (s : State) (identity : List ℕ) (challenged : PlainChallenged) (signature : List ℕ) → s.authentication ≡ Challenged identity challenged
    → state_carried_out full.fields ExternalAuthenticate (external_authenticate signature) (answers.Verdict true ∷ []) (unchained s) ≡ known_state s (known_by challenged)
unfolding entered claimed
signature_left full s identity challenged signature begun = rw begun refl

-- the chip finds the signature right
pub terminal_known : (w : Way) (full : FullRecord) (s : State) (identity : List ℕ) (challenged : PlainChallenged) (signature : List ℕ) (later : Option ChannelState → PlainReply → Course) (told : List Told)
    → s.next ≡ Some ExternalAuthenticate → s.authentication ≡ Challenged identity challenged → signature ≡ signature_of challenged.announced.key (sha256 (signed_bytes identity challenged))
    → AtCourse w full (unchained s) (exchange steps.Ta (external_authenticate signature) later s.channel) told
    → AtCourse w full (known_state s (known_by challenged)) (later (known_state s (known_by challenged)).channel (status_alone 0x9000)) told
terminal_known w full s identity challenged signature later told next begun signed at =
    let key : List ℕ = challenged.announced.key in
    let digest : List ℕ = sha256 (signed_bytes identity challenged) in
    let size : length signature ≡ 64 = ap length signed ∙ signature_size key digest in
    let c : PlainCommand = external_authenticate signature in
    let old : State = unchained s in
    let did : IsHandledSo w full s ExternalAuthenticate c later told =
    handled_so w full s ExternalAuthenticate steps.Ta c later told (signature_kind s signature next) (record { short = omega (arith, size); most = omega arith; class = refl }) at in
    let puts : List Answer → Option Question = λ given. question_by kind_rules (known_at ExternalAuthenticate full old c given) in
    let question : Question = signature_question identity challenged signature in
    let first = one_asked puts [] did.asks question did.asked (signature_next full s identity challenged signature begun size) in
    let ask : Ask = record { question = question; answer = first.answer } in
    let right : first.answer ≡ answers.Verdict true = right_found ask key digest signature (All-head IsGiven ask first.later (subst (All IsGiven) first.is did.given)) refl signed in
    let nothing : first.later ≡ [] =
    none_asked puts (answers.Verdict true ∷ []) first.later (subst (λ (x : Answer). AreAsked puts (x ∷ []) first.later) right first.asked) (signature_last full s identity challenged signature begun size) in
    let found : Ask = record { question = question; answer = answers.Verdict true } in
    let those : did.asks ≡ found ∷ [] = first.is ∙ ap (λ (l : List Ask). ask ∷ l) nothing ∙ ap (λ (x : Answer). record { question = question; answer = x } ∷ []) right in
    carried_with w full s (known_state s (known_by challenged)) ExternalAuthenticate c later told (status_alone 0x9000) [] (found ∷ []) did those
    (ap (λ (f : Option RuleRow). outcome_by f (known_at ExternalAuthenticate full old c (answers.Verdict true ∷ []))) (signature_rules full s signature size))
    (nothing_due_by kind_rules (known_at ExternalAuthenticate full old c (answers.Verdict true ∷ [])) refl)
    (signature_left full s identity challenged signature begun) refl

-- ---- the whole

-- the X half of a point has 32 bytes
half_size : (n : ℕ) → length (x_half (point_of n)) ≡ 32
unfolding point_of
half_size n = refl

-- The terminal has authenticated itself: it drew this pair, and the chip knows it by the pair's X half and by what it sent
-- to be compared.
pub record IsAuthenticated (w : Way) (full : FullRecord) (plan : PlainPlan) (memory : PaceMemory) (chain : PlainChain) (told : List Told) : Type 0 where
  pub number : ℕ
  pub state : State
  pub terminal : PlainTerminalKnown
  pub is : IsKnown state memory chain terminal
  pub key_x : terminal.key_x ≡ x_half (point_of (times number generator))
  pub aux : terminal.aux ≡ aux_of plan
  pub rest : List Told
  pub passed : told ≡ Passed steps.Ta ∷ rest
  pub goes : AtCourse w full (unchained state) (authenticate_chip plan (secret_of number) (point_of (times number generator)) state.channel) rest

-- the terminal signs the challenge, and the chip knows it
signed_so : (w : Way) (full : FullRecord) (s : State) (memory : PaceMemory) (chain : PlainChain) (plan : PlainPlan) (identity : List ℕ) (number : ℕ) (announced : PlainAnnounced) (challenge : List ℕ) (told : List Told)
    → s.pace ≡ Some memory → s.certificates ≡ chain → s.next ≡ Some ExternalAuthenticate → s.authentication ≡ Challenged identity (record { announced = announced; challenge = challenge })
    → announced.key ≡ public_of plan.terminal_secret → announced.key_x ≡ x_half (point_of (times number generator)) → announced.sent ≡ auxiliary plan → announced.aux ≡ aux_of plan → length challenge ≡ 8
    → AtCourse w full (unchained s) (after_challenge plan identity (secret_of number) (point_of (times number generator)) s.channel (data_alone challenge)) told
    → IsAuthenticated w full plan memory chain told
unfolding expecting
signed_so w full s memory chain plan identity number announced challenge told pace certificates next begun key half sent aux size at =
    let secret : List ℕ = secret_of number in
    let point : List ℕ = point_of (times number generator) in
    let challenged : PlainChallenged = record { announced = announced; challenge = challenge } in
    let digest : List ℕ = sha256 (to_sign identity challenge point (auxiliary plan)) in
    let behind : Option ChannelState → Course = λ channel. Passes steps.Ta (authenticate_chip plan secret point channel) in
    let sends : List ℕ → Course = λ signature. exchange steps.Ta (external_authenticate signature) (expecting steps.Ta behind) s.channel in
    let asks = subst (λ (x : Course). AtCourse w full (unchained s) x told) (challenge_came plan s.channel (data_alone challenge) identity secret point challenge (challenge_found challenge size)) at in
    let answered = answered_so w full (unchained s) (questions.Sign plan.terminal_secret digest) (by_signed steps.Ta sends) told asks in
    let signature : List ℕ = signature_of (public_of plan.terminal_secret) digest in
    let answer : answered.ask.answer ≡ answers.Signed signature = sign_given answered.ask plan.terminal_secret digest answered.given answered.same in
    let goes : AtCourse w full (unchained s) (sends signature) told = subst (λ (x : Answer). AtCourse w full (unchained s) (by_signed steps.Ta sends x) told) answer answered.goes in
    let same : to_sign identity challenge point (auxiliary plan) ≡ signed_bytes identity challenged =
    ap (λ (x : List ℕ). identity ++ challenge ++ x ++ auxiliary plan) (sym half) ∙ ap (λ (x : List ℕ). identity ++ challenge ++ announced.key_x ++ x) (sym sent) in
    let signed : signature ≡ signature_of announced.key (sha256 (signed_bytes identity challenged)) =
    ap (λ (k : List ℕ). signature_of k digest) (sym key) ∙ ap (λ (b : List ℕ). signature_of announced.key (sha256 b)) same in
    let new : State = known_state s (known_by challenged) in
    let told_so = passed_so w full new steps.Ta (authenticate_chip plan secret point new.channel) told (terminal_known w full s identity challenged signature (expecting steps.Ta behind) told next begun signed goes) in
    record {
      number = number;
      state = new;
      terminal = known_by challenged;
      is = record { pace = pace; certificates = certificates; terminal = refl; chip = refl };
      key_x = half;
      aux = aux;
      rest = told_so.rest;
      passed = told_so.same;
      goes = told_so.goes;
    }

-- Terminal authentication succeeds, where the chain is whole, ends in the terminal of the last certificate, and this has the
-- key of the plan's secret.
pub authenticated : (w : Way) (full : FullRecord) (s : State) (plan : PlainPlan) (identity : List ℕ) (memory : PaceMemory) (chain : PlainChain) (terminal : PlainParty) (told : List Told)
    → HasChain s memory chain → IsSome memory.template → memory.identity ≡ identity → IsWhole chain terminal → terminal.name ≡ last_holder plan.certificates → terminal.key ≡ public_of plan.terminal_secret → CanCompare plan
    → AtCourse w full (unchained s) (authenticate_terminal plan identity s.channel) told → IsAuthenticated w full plan memory chain told
unfolding authenticate_terminal expecting
authenticated w full s plan identity memory chain terminal told has template same is named key can at =
    let name : List ℕ = last_holder plan.certificates in
    let sends : (secret point : List ℕ) → Course = λ secret point.
    exchange steps.Ta (announce name (x_half point) (auxiliary plan)) (expecting steps.Ta (exchange steps.Ta get_challenge (after_challenge plan identity secret point))) s.channel in
    let answered = answered_so w full (unchained s) (questions.Pair None) (by_pair steps.Ta sends) told at in
    let pair = pair_given answered.ask None answered.given answered.same in
    let secret : List ℕ = secret_of pair.number in
    let point : List ℕ = point_of (times pair.number generator) in
    let goes : AtCourse w full (unchained s) (sends secret point) told = subst (λ (x : Answer). AtCourse w full (unchained s) (by_pair steps.Ta sends x) told) pair.is answered.goes in
    let a : PlainAnnouncement = announcement_by plan name (x_half point) in
    let announced : PlainAnnounced = announced_with is.root is.verifier terminal chain.sectors a in
    let at_challenge : State = announced_state s identity announced in
    let taken = announced_terminal w full s memory chain terminal plan identity name (x_half point) (expecting steps.Ta (exchange steps.Ta get_challenge (after_challenge plan identity secret point))) told
    has template same is (sym named) can (half_size (times pair.number generator)) goes in
    let drawn = challenge_sent w full at_challenge identity announced (after_challenge plan identity secret point) told refl refl taken in
    signed_so w full (challenged_state at_challenge identity announced drawn.challenge) memory chain plan identity pair.number announced drawn.challenge told
    has.pace has.certificates refl refl key refl refl refl drawn.size drawn.goes

-- a plan that a terminal can carry out, whose dates are dates
can_compare : (plan : PlainPlan) → IsFit plan → IfSome plan.age (λ date. IsTrue (is_long_date date)) → IfSome plan.validity (λ date. IsTrue (is_long_date date)) → CanCompare plan
can_compare plan fit age validity = record { age = age; validity = validity; community = fit.community }

-- Behind a PACE in which the holder gave a template: the certificates of an honest plan are accepted, and terminal
-- authentication succeeds.
pub certificates_and_terminal : (w : Way) (full : FullRecord) (s : State) (plan : PlainPlan) (identity : List ℕ) (memory : PaceMemory) (chain : PlainChain) (told : List Told)
    → IsPaced s memory → IsSome memory.template → memory.identity ≡ identity → (is : IsCertified plan full chain) → IsFit plan
    → IfSome plan.age (λ date. IsTrue (is_long_date date)) → IfSome plan.validity (λ date. IsTrue (is_long_date date)) → full.fields.number + length plan.certificates ≤ LAST_NUMBER
    → AtCourse w full (unchained s) (imports plan identity plan.certificates s.channel) told → IsAuthenticated w is.kept_then plan memory chain told
certificates_and_terminal w full s plan identity memory chain told paced template same is fit age validity room at =
    let has : HasChain s memory no_chain = record { pace = paced.pace; certificates = paced.certificates; terminal = paced.terminal; chip = paced.chip } in
    let came = imported w full s plan identity memory no_chain plan.certificates is.kept_then chain told has template is.accepted fit.certificates room at in
    let above = chain_from_above full plan.certificates is.kept_then chain is.accepted in
    authenticated w is.kept_then came.state plan identity memory chain is.terminal told came.has template same (whole_chain chain is.terminal above is.ends) is.named is.terminal_key
    (can_compare plan fit age validity) came.goes
