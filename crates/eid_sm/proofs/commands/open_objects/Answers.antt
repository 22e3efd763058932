use Rattle.std.proofs.Common.{ℕ, List, ◌++◌, refl, sym, ap, ◌∙◌}
use Rattle.eid_sm.specs.Parts.{mac_object}
use Rattle.eid_sm.specs.Commands.{command_objects, le_object}
use Rattle.eid_sm.proofs.LeFacts.{said}
use Rattle.eid_sm.proofs.commands.open_objects.Goals as goal

pub returns-in_default-read_le-clause-only : goal.returns-in_default-read_le-clause-only
returns-in_default-read_le-clause-only g c = λ b ne octets is.
    let start = c.as_slice.ensures.value ∙ c.command_start-start.ensures in
    let all : List ℕ = command_objects c.args.enc.now c.args.count.now is.form b ne in
    let objects = c.in-Some.ensures.only all (is.written ∙ ap (λ (s : List ℕ). all ++ mac_object c.args.mac.now s all) (sym start)) in
    let parts = c.split_encrypted.ensures.only c.args.enc.now c.args.count.now b (le_object is.form ne) ne (said is.form ne _ is.says refl) objects in
    absurd (c.in_default-read_le.not-Some ne (c.read_le.ensures.only ne (said is.form ne _ is.says parts.1)))

pub returns-then-open_encrypted-clause-only : goal.returns-then-open_encrypted-clause-only
returns-then-open_encrypted-clause-only g c = λ b ne octets is.
    let start = c.as_slice.ensures.value ∙ c.command_start-start.ensures in
    let all : List ℕ = command_objects c.args.enc.now c.args.count.now is.form b ne in
    let objects = c.in-Some.ensures.only all (is.written ∙ ap (λ (s : List ℕ). all ++ mac_object c.args.mac.now s all) (sym start)) in
    let parts = c.split_encrypted.ensures.only c.args.enc.now c.args.count.now b (le_object is.form ne) ne (said is.form ne _ is.says refl) objects in
    (c.in-Some-read_le.ensures.only ne (said is.form ne _ is.says parts.1), (c.open_encrypted.ensures.only b octets parts.0).1)

pub returns-else-open_encrypted-clause-only : goal.returns-else-open_encrypted-clause-only
returns-else-open_encrypted-clause-only g c = λ b ne octets is.
    let start = c.as_slice.ensures.value ∙ c.command_start-start.ensures in
    let all : List ℕ = command_objects c.args.enc.now c.args.count.now is.form b ne in
    let objects = c.in-Some.ensures.only all (is.written ∙ ap (λ (s : List ℕ). all ++ mac_object c.args.mac.now s all) (sym start)) in
    let parts = c.split_encrypted.ensures.only c.args.enc.now c.args.count.now b (le_object is.form ne) ne (said is.form ne _ is.says refl) objects in
    let opened = (c.open_encrypted.ensures.only b octets parts.0).0 in
    absurd (cc)
