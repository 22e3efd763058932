-- The words of the command line. This project's own.
use Rattle.std.specs.Prelude.{◌≡◌, ℕ, ◌^◌, ◌<◌, ◌≤◌, List, [], ◌∷◌, codes, decimal}

-- What the words ask for: to run a script on an image, with the start of the coprocessor; to run it
-- with the coprocessor's answers from a file; to run a terminal with the chip of an image, with the start
-- of the chip's coprocessor; to run so many generated sessions; to write the image of a configuration; to
-- write the certificate of a configuration; to print the record of an image.
pub data Command : Type 0 where
  Run : (image script : List ℕ) (start : ℕ) → Command
  Replay : (image script answers : List ℕ) → Command
  Session : (image terminal : List ℕ) (start : ℕ) → Command
  Big : (sessions : ℕ) → Command
  Make : (config image : List ℕ) → Command
  Kit : (config file : List ℕ) → Command
  Show : (image : List ℕ) → Command

abbrev pub words_of : Command → List (List ℕ)
words_of (Run image script start) = codes "run" ∷ image ∷ script ∷ decimal start ∷ []
words_of (Replay image script answers) = codes "replay" ∷ image ∷ script ∷ answers ∷ []
words_of (Session image terminal start) = codes "session" ∷ image ∷ terminal ∷ decimal start ∷ []
words_of (Big sessions) = codes "big" ∷ decimal sessions ∷ []
words_of (Make config image) = codes "make" ∷ config ∷ image ∷ []
words_of (Kit config file) = codes "kit" ∷ config ∷ file ∷ []
words_of (Show image) = codes "show" ∷ image ∷ []

-- the numbers among the words are in their range
abbrev pub HasNumbers : Command → Type 0
HasNumbers (Run image script start) = start < 2 ^ 64
HasNumbers (Replay image script answers) = Unit {0}
HasNumbers (Session image terminal start) = start < 2 ^ 64
HasNumbers (Big sessions) = (1 ≤ sessions) × (sessions ≤ 1000)
HasNumbers (Make config image) = Unit {0}
HasNumbers (Kit config file) = Unit {0}
HasNumbers (Show image) = Unit {0}

-- the words are those of the command
pub record Says (words : List (List ℕ)) (c : Command) : Type 0 where
  pub is : words ≡ words_of c
  pub numbers : HasNumbers c
