-- Fragments, fed one after the other, and the command that ends them are the request of their bodies.
use Rattle.std.proofs.Common.{◌≡◌, ℕ, ◌+◌, ◌≤◌, ◌==◌, true, false, List, [], ◌∷◌, ◌++◌, length, Option, None, Some, refl, sym, ap, subst, ◌∙◌, rules, arith, eq-eqb, length-append, append_assoc}
use Rattle.std.specs.List.{All}
use Rattle.std.proofs.lemmas.List.Elements.{All-head, All-tail}
use Rattle.eid_apdu.specs.Command.{PlainCommand}
use Rattle.eid_apdu.specs.Chaining.{OpenChain, MAX_REQUEST, fed, is_fragment, continues, body_so_far, chain_after, chain_after_all, joined_bodies, IsFragmentOf, IsWholeOf}
use Rattle.eid_apdu.specs.declared.chain.Fed.TheVariants.{More, Whole}
use Rattle.eid_apdu.proofs.Chains.{says_fed}

-- a chain of the request's commands, with these bytes
abbrev chain_with : PlainCommand → List ℕ → Option OpenChain
chain_with last joined = Some (record { ins = last.ins; p1 = last.p1; p2 = last.p2; joined = joined })

continues_with : (last c : PlainCommand) (joined : List ℕ) → c.ins ≡ last.ins → c.p1 ≡ last.p1 → c.p2 ≡ last.p2
    → continues (chain_with last joined) c ≡ true
continues_with last c joined i p q =
    let ins : (last.ins == c.ins) ≡ true = eq-eqb last.ins c.ins (sym i) in
    let p1 : (last.p1 == c.p1) ≡ true = eq-eqb last.p1 c.p1 (sym p) in
    let p2 : (last.p2 == c.p2) ≡ true = eq-eqb last.p2 c.p2 (sym q) in
    rw (ins, p1, p2) refl

-- a further fragment is joined
goes_on : (last c : PlainCommand) (joined : List ℕ) → IsFragmentOf last c → length (joined ++ c.body) ≤ MAX_REQUEST
    → chain_after (chain_with last joined) c (fed (chain_with last joined) c) ≡ chain_with last (joined ++ c.body)
goes_on last c joined f short =
    let same : continues (chain_with last joined) c ≡ true = continues_with last c joined f.ins f.p1 f.p2 in
    let said : More ≡ fed (chain_with last joined) c = says_fed (chain_with last joined) c More (same, short, f.fragment) in
    rw (sym said, f.ins, f.p1, f.p2) refl

-- the first one begins a chain
begins : (last c : PlainCommand) → IsFragmentOf last c → length c.body ≤ MAX_REQUEST → chain_after None c (fed None c) ≡ chain_with last c.body
begins last c f short =
    let said : More ≡ fed None c = says_fed None c More (refl, short, f.fragment) in
    rw (sym said, f.ins, f.p1, f.p2) refl

-- all further ones are joined
all_go_on : (last : PlainCommand) (joined : List ℕ) (cs : List PlainCommand) → All (IsFragmentOf last) cs → length (joined ++ joined_bodies cs) ≤ MAX_REQUEST
    → chain_after_all (chain_with last joined) cs ≡ chain_with last (joined ++ joined_bodies cs)
all_go_on last joined [] all short = ap (chain_with last) (search rules)
all_go_on last joined (c ∷ cs) all short =
    let sizes : length (joined ++ (c.body ++ joined_bodies cs)) ≡ length joined + (length c.body + length (joined_bodies cs)) =
    omega (arith, length-append joined (c.body ++ joined_bodies cs), length-append c.body (joined_bodies cs)) in
    let one : length (joined ++ c.body) ≤ MAX_REQUEST = omega (arith, short, sizes, length-append joined c.body) in
    let order : (joined ++ c.body) ++ joined_bodies cs ≡ joined ++ (c.body ++ joined_bodies cs) = append_assoc joined c.body (joined_bodies cs) in
    let others : length ((joined ++ c.body) ++ joined_bodies cs) ≤ MAX_REQUEST = subst (λ (b : List ℕ). length b ≤ MAX_REQUEST) (sym order) short in
    ap (λ (chain : Option OpenChain). chain_after_all chain cs) (goes_on last c joined (All-head (IsFragmentOf last) c cs all) one)
    ∙ all_go_on last (joined ++ c.body) cs (All-tail (IsFragmentOf last) c cs all) others
    ∙ ap (chain_with last) order

-- the chain that is open before the last command goes on with it, and has the bodies
pub record Before (chain : Option OpenChain) (last : PlainCommand) (joined : List ℕ) : Type 0 where
  pub goes_on : continues chain last ≡ true
  pub bodies : body_so_far chain last.body ≡ joined ++ last.body

before_last : (fragments : List PlainCommand) (last : PlainCommand) → All (IsFragmentOf last) fragments → length (joined_bodies fragments) ≤ MAX_REQUEST
    → Before (chain_after_all None fragments) last (joined_bodies fragments)
before_last [] last all short = record { goes_on = refl; bodies = refl }
before_last (c ∷ cs) last all short =
    let first : length c.body ≤ MAX_REQUEST = omega (arith, short, length-append c.body (joined_bodies cs)) in
    let chain : chain_after_all None (c ∷ cs) ≡ chain_with last (c.body ++ joined_bodies cs) =
    ap (λ (chain : Option OpenChain). chain_after_all chain cs) (begins last c (All-head (IsFragmentOf last) c cs all) first)
    ∙ all_go_on last c.body cs (All-tail (IsFragmentOf last) c cs all) short in
    subst (λ (chain : Option OpenChain). Before chain last (c.body ++ joined_bodies cs)) (sym chain)
    (record { goes_on = continues_with last last (c.body ++ joined_bodies cs) refl refl refl; bodies = refl })

pub joined_request : (fragments : List PlainCommand) (last : PlainCommand) → All (IsFragmentOf last) fragments → is_fragment last ≡ false
    → length (joined_bodies fragments ++ last.body) ≤ MAX_REQUEST → IsWholeOf fragments last
joined_request fragments last all ends short =
    let some : length (joined_bodies fragments) ≤ MAX_REQUEST = omega (arith, short, length-append (joined_bodies fragments) last.body) in
    let before : Before (chain_after_all None fragments) last (joined_bodies fragments) = before_last fragments last all some in
    let bound : length (body_so_far (chain_after_all None fragments) last.body) ≤ MAX_REQUEST =
    subst (λ (b : List ℕ). length b ≤ MAX_REQUEST) (sym before.bodies) short in
    record {
      said = sym (says_fed (chain_after_all None fragments) last Whole (before.goes_on, bound, ends));
      joined = ap (λ (b : List ℕ). record last { body = b }) before.bodies;
    }
