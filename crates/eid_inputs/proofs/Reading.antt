-- What is read of an input file.
use Rattle.std.proofs.Common.{◌≡◌, ℕ, ◌+◌, ◌<◌, ◌≤◌, Bool, true, false, IsTrue, List, length, Option, Some, None, Result, Ok, Err, refl, sym, ap, ◌∙◌, arith, nat_eq, subst, inl, inr}
use Rattle.std.specs.Prelude.{◌⊎◌, IfOk, IfErr, IsSome, option_map, min, nat_le, take, Vec}
use Rattle.std.proofs.lemmas.List.{length-take, length-take-le, take_all}
use Rattle.std.proofs.lemmas.Option.{none-some, same_Some}
use Rattle.std.specs.declared.alloc.Global.{Global}
use Rattle.std.proofs.lemmas.Bool.Decides.{nat_tests}
use Rattle.eid_inputs.specs.declared.exit.Exit.{Exit}
use Rattle.eid_inputs.specs.declared.exit.Exit.TheVariants.{Done, Usage, FileFault, NoMemory, BadImage, BadScript, BadConfig, SinkFault, BadAnswers}
use Rattle.eid_script.specs.Scripts.{script_of}
use Rattle.eid_copro.specs.Lines.{answers_of}
use Rattle.eid_perso.specs.declared.config.ConfigError.{ConfigError}
use Rattle.eid_perso.specs.declared.config.ConfigError.TheVariants as config
use Rattle.eid_perso.specs.Reading.{IsRefusedBy, config_of, document_in, kit_of_text, plan_of_text}
use Rattle.eid_inputs.specs.Images.{record_of}
use Rattle.eid_record.specs.Plain.{FullRecord}
use Rattle.eid_store.specs.Stands.{stands}
use Rattle.eid_inputs.specs.Inputs.{image_in, in_file, or_bad}
use Rattle.eid_inputs.specs.Exits.{exit_refused}
use Rattle.eid_inputs.specs.Loads.{IsBad, IsRefused}

-- the image, where the file holds these bytes
pub image_read : (file : Option (List ℕ)) (bytes : List ℕ) (full : FullRecord) → file ≡ Some bytes → record_of bytes ≡ Some full → image_in file ≡ Ok full
image_read file bytes full is stood = rw (is, stood) refl

pub image_bad : (file : Option (List ℕ)) (bytes : List ℕ) → file ≡ Some bytes → record_of bytes ≡ None → image_in file ≡ Err BadImage
image_bad file bytes is stood = rw (is, stood) refl

-- cells of the right number that stand for a record are an image
pub record_of_cells : (cells : List ℕ) (full : FullRecord) → length cells ≡ 65536 → stands cells ≡ Some full → record_of cells ≡ Some full
record_of_cells cells full long stood =
    let right : nat_eq (length cells) 65536 ≡ true = rw long refl in
    rw right stood

pub record_long : (cells : List ℕ) → length cells ≡ 65536 → record_of cells ≡ stands cells
record_long cells long =
    let right : nat_eq (length cells) 65536 ≡ true = rw long refl in
    rw right refl

pub image_of_cells : (cells : List ℕ) (full : FullRecord) → length cells ≡ 65536 → stands cells ≡ Some full → image_in (Some cells) ≡ Ok full
image_of_cells cells full long stood = image_read (Some cells) cells full refl (record_of_cells cells full long stood)

pub some_of : (found : Option FullRecord) → IsSome found → (full : FullRecord) × (found ≡ Some full)
some_of None is = absurd cc
some_of (Some full) is = (full, refl)

-- a file that is too long stands for nothing
long_image : (bytes : List ℕ) → 65536 < length bytes → record_of bytes ≡ None
long_image bytes long =
    let other : nat_eq (length bytes) 65536 ≡ false = grind (arith, nat_tests) in
    rw other refl

-- What is too long is refused by its front: of a text that has at most so many bytes, that is the text.
front_given : {A : Type 0} (said : List ℕ → A) (limit : ℕ) (refusal : A) → ((text : List ℕ) → limit < length text → said text ≡ refusal) → (text : List ℕ) → said (take (limit + 1) text) ≡ said text
front_given said limit refusal long text = by_length (nat_le (length text) limit) refl
  where
    by_length : (short : Bool) → nat_le (length text) limit ≡ short → said (take (limit + 1) text) ≡ said text
    by_length true is =
        let fits : length text ≤ limit + 1 = grind (arith, nat_tests) in
        ap said (take_all (limit + 1) text fits)
    by_length false is =
        let beyond : limit < length text = grind (arith, nat_tests) in
        let front : length (take (limit + 1) text) ≡ limit + 1 = length-take-le (limit + 1) text (omega (arith, beyond)) in
        long (take (limit + 1) text) (omega (arith, front)) ∙ sym (long text beyond)

script_long : (text : List ℕ) → 1048576 < length text → script_of text ≡ Err 0
script_long text long =
    let beyond : nat_le (length text) 1048576 ≡ false = grind (arith, nat_tests) in
    rw beyond refl

pub script_front : (whole : List ℕ) → or_bad BadScript (script_of (take 1048577 whole)) ≡ or_bad BadScript (script_of whole)
script_front whole = ap (or_bad BadScript) (front_given script_of 1048576 (Err 0) script_long whole)

answers_long : (text : List ℕ) → 1048576 < length text → answers_of text ≡ Err 0
unfolding answers_of
answers_long text long =
    let beyond : nat_le (length text) 1048576 ≡ false = grind (arith, nat_tests) in
    rw beyond refl

pub answers_front : (whole : List ℕ) → or_bad BadAnswers (answers_of (take 1048577 whole)) ≡ or_bad BadAnswers (answers_of whole)
answers_front whole = ap (or_bad BadAnswers) (front_given answers_of 1048576 (Err 0) answers_long whole)

config_long : (text : List ℕ) → 1048576 < length text → config_of text ≡ Err 0
unfolding config_of document_in
config_long text long =
    let beyond : nat_le (length text) 1048576 ≡ false = grind (arith, nat_tests) in
    rw beyond refl

pub config_front : (whole : List ℕ) → or_bad BadConfig (config_of (take 1048577 whole)) ≡ or_bad BadConfig (config_of whole)
config_front whole = ap (or_bad BadConfig) (front_given config_of 1048576 (Err 0) config_long whole)

kit_long : (text : List ℕ) → 1048576 < length text → kit_of_text text ≡ Err 0
unfolding kit_of_text document_in
kit_long text long =
    let beyond : nat_le (length text) 1048576 ≡ false = grind (arith, nat_tests) in
    rw beyond refl

pub kit_front : (whole : List ℕ) → or_bad BadConfig (kit_of_text (take 1048577 whole)) ≡ or_bad BadConfig (kit_of_text whole)
kit_front whole = ap (or_bad BadConfig) (front_given kit_of_text 1048576 (Err 0) kit_long whole)

plan_long : (text : List ℕ) → 1048576 < length text → plan_of_text text ≡ Err 0
unfolding plan_of_text document_in
plan_long text long =
    let beyond : nat_le (length text) 1048576 ≡ false = grind (arith, nat_tests) in
    rw beyond refl

pub plan_front : (whole : List ℕ) → or_bad BadConfig (plan_of_text (take 1048577 whole)) ≡ or_bad BadConfig (plan_of_text whole)
plan_front whole = ap (or_bad BadConfig) (front_given plan_of_text 1048576 (Err 0) plan_long whole)

-- From what the front of a file says to what the file says.
of_front : {A : Type 0} (said : List ℕ → Result A Exit) (n : ℕ) (file : Option (List ℕ)) (text : List ℕ) → ((whole : List ℕ) → said (take n whole) ≡ said whole) → option_map (take n) file ≡ Some text → in_file said file ≡ said text
of_front said n None text law is = absurd (none-some text is)
of_front said n (Some whole) text law is = sym (law whole) ∙ ap said (same_Some (take n whole) text is)

pub found_in : {A B : Type 0} (r : Result B Exit) (view : B → A) (said : List ℕ → Result A Exit) (n : ℕ) (tells : Bool) (file : Option (List ℕ)) (text : List ℕ) → ((whole : List ℕ) → said (take n whole) ≡ said whole) → (IsTrue tells → option_map (take n) file ≡ Some text) → IfOk r (λ x. said text ≡ Ok (view x)) → IfOk r (λ x. IsTrue tells → in_file said file ≡ Ok (view x))
found_in (Ok x) view said n tells file text law is h = λ told. of_front said n file text law (is told) ∙ h
found_in (Err e) view said n tells file text law is h = h

bad_in : {A : Type 0} (e : Exit) (input given : Result A Exit) (tells : Bool) (rose : Type 0) → (IsTrue tells → input ≡ given) → IsBad e given → IsRefused tells input rose e
bad_in (BadScript line) input given tells rose is h = λ told. is told ∙ h
bad_in (BadConfig key) input given tells rose is h = λ told. is told ∙ h
bad_in (BadAnswers line) input given tells rose is h = λ told. is told ∙ h
bad_in Done input given tells rose is h = absurd h
bad_in Usage input given tells rose is h = absurd h
bad_in FileFault input given tells rose is h = absurd h
bad_in NoMemory input given tells rose is h = absurd h
bad_in BadImage input given tells rose is h = absurd h
bad_in SinkFault input given tells rose is h = absurd h

pub refused_in : {A B : Type 0} (r : Result B Exit) (said : List ℕ → Result A Exit) (n : ℕ) (tells : Bool) (file : Option (List ℕ)) (text : List ℕ) (rose : Type 0) → ((whole : List ℕ) → said (take n whole) ≡ said whole) → (IsTrue tells → option_map (take n) file ≡ Some text) → IfErr r (λ e. (e ≡ NoMemory) ⊎ IsBad e (said text)) → IfErr r (λ e. IsRefused tells (in_file said file) rose e)
refused_in (Ok x) said n tells file text rose law is h = h
refused_in (Err e) said n tells file text rose law is (inl memory) = subst (λ (x : Exit). IsRefused tells (in_file said file) rose x) (sym memory) tt
refused_in (Err e) said n tells file text rose law is (inr bad) = bad_in e (in_file said file) (said text) tells rose (λ told. of_front said n file text law (is told)) bad

-- a configuration or plan that was refused
pub refused_config : {A : Type 0} (said : Result A ℕ) (error : ConfigError) → IsRefusedBy said error → (exit_refused error ≡ NoMemory) ⊎ IsBad (exit_refused error) (or_bad BadConfig said)
refused_config said (config.Bad key) is = inr (ap (or_bad BadConfig) is)
refused_config said config.NoMemory is = inl refl

-- From the image of the front to that of the file.
pub image_front : (bytes : List ℕ) → record_of (take 65537 bytes) ≡ record_of bytes
image_front bytes = front_given record_of 65536 None long_image bytes

-- what is shorter than the front of a file may be is the file
whole_file : (n : ℕ) (file : Option (List ℕ)) (bytes : List ℕ) → option_map (take n) file ≡ Some bytes → length bytes < n → file ≡ Some bytes
whole_file n None bytes is short = absurd (none-some bytes is)
whole_file n (Some whole) bytes is short =
    let front : take n whole ≡ bytes = same_Some (take n whole) bytes is in
    let size : min n (length whole) ≡ length bytes = sym (length-take n whole) ∙ ap (λ (l : List ℕ). length l) front in
    let fits : length whole ≤ n = grind (arith) in
    ap (λ (l : List ℕ). Some l) (sym (take_all n whole fits) ∙ front)

pub image_stands : (r : Result (Vec ℕ Global) Exit) (bytes : Vec ℕ Global) → IfOk r (λ image. (image ≡ bytes) × (length bytes.items ≡ 65536) × IsSome (stands bytes.items)) → IfOk r (λ cells. (length cells.items ≡ 65536) × IsSome (stands cells.items))
image_stands (Ok image) bytes h = subst (λ (v : Vec ℕ Global). (length v.items ≡ 65536) × IsSome (stands v.items)) (sym h.0) (h.1, h.2)
image_stands (Err e) bytes h = h

pub image_held : (r : Result (Vec ℕ Global) Exit) (n : ℕ) (tells : Bool) (file : Option (List ℕ)) (bytes : Vec ℕ Global) → 65536 < n → (IsTrue tells → option_map (take n) file ≡ Some bytes.items) → IfOk r (λ image. (image ≡ bytes) × (length bytes.items ≡ 65536) × IsSome (stands bytes.items)) → IfOk r (λ cells. IsTrue tells → file ≡ Some cells.items)
image_held (Ok image) n tells file bytes more is h = λ told. whole_file n file bytes.items (is told) (omega (arith, more, h.1)) ∙ ap (λ (v : Vec ℕ Global). Some v.items) (sym h.0)
image_held (Err e) n tells file bytes more is h = h

bad_front : (n : ℕ) (file : Option (List ℕ)) (bytes : List ℕ) → ((whole : List ℕ) → record_of (take n whole) ≡ record_of whole) → option_map (take n) file ≡ Some bytes → record_of bytes ≡ None → image_in file ≡ Err BadImage
bad_front n None bytes law is bad = absurd (none-some bytes is)
bad_front n (Some whole) bytes law is bad = image_bad (Some whole) whole refl (sym (law whole) ∙ ap record_of (same_Some (take n whole) bytes is) ∙ bad)

pub refused_image : {T : Type 0} (r : Result T Exit) (n : ℕ) (tells : Bool) (file : Option (List ℕ)) (bytes : List ℕ) (rose : Type 0) → ((whole : List ℕ) → record_of (take n whole) ≡ record_of whole) → (IsTrue tells → option_map (take n) file ≡ Some bytes) → IfErr r (λ e. (e ≡ NoMemory) ⊎ ((e ≡ BadImage) × (record_of bytes ≡ None))) → IfErr r (λ e. IsRefused tells (image_in file) rose e)
refused_image (Ok i) n tells file bytes rose law is h = h
refused_image (Err e) n tells file bytes rose law is (inl memory) = subst (λ (x : Exit). IsRefused tells (image_in file) rose x) (sym memory) tt
refused_image (Err e) n tells file bytes rose law is (inr bad) = subst (λ (x : Exit). IsRefused tells (image_in file) rose x) (sym bad.0) (λ told. bad_front n file bytes law (is told) bad.1)
