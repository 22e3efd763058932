-- The rights of a template by name (BSI TR-03110-4).
use Rattle.std.specs.Prelude.{ℕ, ◌^◌, List, [], ◌∷◌, map, codes}

-- the name of each right and the number of its bit
abbrev pub right_names : List (List ℕ × ℕ)
right_names =
    (codes "AGE_VERIFICATION", 0) ∷
    (codes "COMMUNITY_ID_VERIFICATION", 1) ∷
    (codes "RESTRICTED_IDENTIFICATION", 2) ∷
    (codes "PRIVILEGED_TERMINAL", 3) ∷
    (codes "CAN_ALLOWED", 4) ∷
    (codes "PIN_MANAGEMENT", 5) ∷
    (codes "INSTALL_CERTIFICATE", 6) ∷
    (codes "INSTALL_QUALIFIED_CERTIFICATE", 7) ∷
    (codes "READ_DG1", 8) ∷
    (codes "READ_DG2", 9) ∷
    (codes "READ_DG3", 10) ∷
    (codes "READ_DG4", 11) ∷
    (codes "READ_DG5", 12) ∷
    (codes "READ_DG6", 13) ∷
    (codes "READ_DG7", 14) ∷
    (codes "READ_DG8", 15) ∷
    (codes "READ_DG9", 16) ∷
    (codes "READ_DG10", 17) ∷
    (codes "READ_DG11", 18) ∷
    (codes "READ_DG12", 19) ∷
    (codes "READ_DG13", 20) ∷
    (codes "READ_DG14", 21) ∷
    (codes "READ_DG15", 22) ∷
    (codes "READ_DG16", 23) ∷
    (codes "READ_DG17", 24) ∷
    (codes "READ_DG18", 25) ∷
    (codes "READ_DG19", 26) ∷
    (codes "READ_DG20", 27) ∷
    (codes "READ_DG21", 28) ∷
    (codes "WRITE_DG21", 33) ∷
    (codes "WRITE_DG20", 34) ∷
    (codes "WRITE_DG19", 35) ∷
    (codes "WRITE_DG18", 36) ∷
    (codes "WRITE_DG17", 37) ∷
    []

-- the name of each right and the number in which its bit alone is set
abbrev pub right_flags : List (List ℕ × ℕ)
right_flags = map (λ row. (row.0, 2 ^ row.1)) right_names
