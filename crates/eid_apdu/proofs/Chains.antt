-- What is said of a command is what it is, and what appending a command's body to an emptied buffer gives.
use Rattle.std.proofs.Common.{subst, ◌≡◌, ℕ, true, false, ◌<◌, ◌≤◌, nat_le, List, [], length, Option, None, rules, refl, arith, le-leb}
use Rattle.std.proofs.lemmas.Bool.Decides.{nat_tests}
use Rattle.eid_apdu.specs.Command.{PlainCommand}
use Rattle.eid_apdu.specs.Chaining.{OpenChain, Says, fed, body_so_far, MAX_REQUEST}
use Rattle.eid_apdu.specs.Collecting.{Joins, IsJoined}
use Rattle.eid_apdu.specs.declared.chain.Fed.{Fed}
use Rattle.eid_apdu.specs.declared.chain.Fed.TheVariants.{More, Whole, Broken, TooLong}

pub says_fed : (chain : Option OpenChain) (c : PlainCommand) (f : Fed) → Says chain c f → f ≡ fed chain c
unfolding fed
says_fed chain c More s =
    let short : nat_le (length (body_so_far chain c.body)) MAX_REQUEST ≡ true = le-leb _ _ s.1 in
    rw (s.0, short, s.2) refl
says_fed chain c Whole s =
    let short : nat_le (length (body_so_far chain c.body)) MAX_REQUEST ≡ true = le-leb _ _ s.1 in
    rw (s.0, short, s.2) refl
says_fed chain c Broken s = rw s refl
says_fed chain c TooLong s =
    let long : MAX_REQUEST < length (body_so_far chain c.body) = s.1 in
    let over : nat_le (length (body_so_far chain c.body)) MAX_REQUEST ≡ false = grind (arith, nat_tests) in
    rw (s.0, over) refl

pub first_says : (c : PlainCommand) (f : Fed) (new : List ℕ) → Joins [] c f new → Says None c f
first_says c More new j = (refl, subst (λ (b : List ℕ). length b ≤ MAX_REQUEST) j.1 j.2, j.0)
first_says c Whole new j = (refl, subst (λ (b : List ℕ). length b ≤ MAX_REQUEST) j.1 j.2, j.0)
first_says c Broken new j = absurd j
first_says c TooLong new j = (refl, j.0)

pub first_short : (c : PlainCommand) (f : Fed) (new : List ℕ) → Joins [] c f new → length new ≤ MAX_REQUEST
first_short c More new j = j.2
first_short c Whole new j = j.2
first_short c Broken new j = absurd j
first_short c TooLong new j = rw j.1 (search rules)

pub first_kept : (c : PlainCommand) (f : Fed) (new : List ℕ) → Joins [] c f new → IsJoined None c f new
first_kept c More new j = j.1
first_kept c Whole new j = j.1
first_kept c Broken new j = absurd j
first_kept c TooLong new j = tt
