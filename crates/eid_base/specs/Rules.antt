-- The rules of a command, by their numbers, and what each asks. The numbers are this project's own.
use Rattle.std.specs.Prelude.{ℕ, Option, Some, None, Result, Ok, Err}
use Rattle.eid_base.specs.declared.codes.Rule.{Rule}

-- the bytes are a command, and its body is not too long
abbrev pub command_rule : ℕ
command_rule = 1

-- in a channel: the objects of secure messaging are there
abbrev pub objects_rule : ℕ
objects_rule = 2

-- in a channel: they are right
abbrev pub protection_rule : ℕ
protection_rule = 3

-- some kind has the class
abbrev pub class_rule : ℕ
class_rule = 4

-- some kind has the class and the instruction
abbrev pub instruction_rule : ℕ
instruction_rule = 5

-- some kind has the class, the instruction and the parameters
abbrev pub parameters_rule : ℕ
parameters_rule = 6

-- no chain of fragments is open, or the command goes on with it
abbrev pub unbroken_rule : ℕ
unbroken_rule = 7

-- the body of the request is not too long
abbrev pub length_rule : ℕ
length_rule = 8

-- the step is the run's next one
abbrev pub step_rule : ℕ
step_rule = 9

-- the body has the form of the kind
abbrev pub form_rule : ℕ
form_rule = 10

-- the reference is that of a password that can be chosen
abbrev pub password_rule : ℕ
password_rule = 11

-- there is a current file
abbrev pub current_rule : ℕ
current_rule = 12

-- the identifier names the application or a file
abbrev pub named_rule : ℕ
named_rule = 13

-- the file is a data group that may be written
abbrev pub writable_rule : ℕ
writable_rule = 14

-- the PIN is active
abbrev pub active_rule : ℕ
active_rule = 15

-- a try of the PIN is left
abbrev pub try_rule : ℕ
try_rule = 16

-- the PIN is not suspended
abbrev pub resumed_rule : ℕ
resumed_rule = 17

-- the session has a PACE
abbrev pub pace_rule : ℕ
pace_rule = 20

-- in that PACE the holder gave a template
abbrev pub template_rule : ℕ
template_rule = 21

-- no terminal has authenticated itself after it
abbrev pub unknown_rule : ℕ
unknown_rule = 22

-- the name is a trust point's or the document verifier's
abbrev pub key_rule : ℕ
key_rule = 23

-- a chain of certificates up to a terminal's was accepted
abbrev pub chain_rule : ℕ
chain_rule = 24

-- the name is that of the chain's terminal
abbrev pub name_rule : ℕ
name_rule = 25

-- the session has a terminal authentication
abbrev pub terminal_rule : ℕ
terminal_rule = 26

-- the chip has not authenticated itself after it
abbrev pub unproven_rule : ℕ
unproven_rule = 27

-- the chip has authenticated itself after it
abbrev pub proven_rule : ℕ
proven_rule = 28

-- the PIN may be managed in this way
abbrev pub management_rule : ℕ
management_rule = 29

-- an unblocking is left
abbrev pub unblocking_rule : ℕ
unblocking_rule = 30

-- the last PACE was with the PIN, or with the CAN where that is allowed
abbrev pub holder_rule : ℕ
holder_rule = 31

-- the application is selected
abbrev pub application_rule : ℕ
application_rule = 32

-- the right is granted
abbrev pub right_rule : ℕ
right_rule = 33

-- the terminal sent what is to be compared
abbrev pub sent_rule : ℕ
sent_rule = 34

-- the data group to compare with holds something to compare
abbrev pub reference_rule : ℕ
reference_rule = 35

-- the comparison holds
abbrev pub comparison_rule : ℕ
comparison_rule = 36

-- the file is present
abbrev pub present_rule : ℕ
present_rule = 37

-- the offset is at most the file's length
abbrev pub offset_rule : ℕ
offset_rule = 38

-- what is written ends at the file's end at the latest
abbrev pub end_rule : ℕ
end_rule = 39

-- the sector keys are the terminal's
abbrev pub sector_rule : ℕ
sector_rule = 40

-- the terminal's point is the one that it announced
abbrev pub other_key_rule : ℕ
other_key_rule = 41

-- the certificate is issued under the name that was selected
abbrev pub issuer_rule : ℕ
issuer_rule = 42

-- the one who issues it may sign a certificate of its role
abbrev pub role_rule : ℕ
role_rule = 43

-- a link is signed by the current trust point, or is the current trust point's own
abbrev pub link_rule : ℕ
link_rule = 44

-- a certificate that is no link has not expired
abbrev pub expiry_rule : ℕ
expiry_rule = 45

-- no question to the coprocessor met a fault
abbrev pub fault_rule : ℕ
fault_rule = 50

-- the terminal's ephemeral point is not the chip's
abbrev pub same_point_rule : ℕ
same_point_rule = 51

-- no question to the coprocessor was answered with no point
abbrev pub no_point_rule : ℕ
no_point_rule = 52

-- the signature is right
abbrev pub signature_rule : ℕ
signature_rule = 53

-- a commit number is left for what is to be committed
abbrev pub number_rule : ℕ
number_rule = 54

-- the token is right
abbrev pub token_rule : ℕ
token_rule = 55

-- the number of the rule that refuses, if one does
abbrev pub refused_by : Result Unit Rule → Option ℕ
refused_by (Ok passed) = None
refused_by (Err rule) = Some rule.0
