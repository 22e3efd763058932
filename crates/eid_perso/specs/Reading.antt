-- What readers of configurations answer.
use Rattle.std.specs.Prelude.{◌≡◌, ℕ, ◌&&◌, nat_le, List, length, Option, None, Result, Ok, Err, if◌then◌else◌}
use Rattle.std.specs.Str.{is_utf8}
use Rattle.toml.specs.Data.{Members}
use Rattle.toml.specs.Parse.{parse_document}
use Rattle.eid_record.specs.Reading.{◌>>=◌}
use Rattle.eid_text.specs.Lines.{text_limit}
use Rattle.eid_terminal.specs.Plans.{PlainPlan}
use Rattle.eid_perso.specs.declared.config.ConfigError.{ConfigError}
use Rattle.eid_perso.specs.declared.config.ConfigError.TheVariants.{Bad, NoMemory}
use Rattle.eid_perso.specs.Config.{PlainConfig}
use Rattle.eid_perso.specs.Keys.{config_in, or_refused}
use Rattle.eid_perso.specs.Kit.{PlainKit}
use Rattle.eid_perso.specs.KitKeys.{kit_in}
use Rattle.eid_perso.specs.PlanKeys.{plan_in}

abbrev pub IsRefusedBy : {Y : Type 0} → Result Y ℕ → ConfigError → Type 0
IsRefusedBy read (Bad key) = read ≡ Err key
IsRefusedBy read NoMemory = Unit {0}

-- What a reader answered, seen by view, is what reading gives; want of memory may stand in its place.
abbrev pub Reads : {X Y : Type 0} → (X → Y) → Result X ConfigError → Result Y ℕ → Type 0
Reads view (Ok x) read = read ≡ Ok (view x)
Reads view (Err e) read = IsRefusedBy read e

-- the table that a text writes: a TOML document that is not too long
abbrev pub table_of : List ℕ → Option Members
table_of text = if nat_le (length text) text_limit && is_utf8 text then parse_document text else None

-- the table, or that key 0 is refused
unfoldable pub document_in : List ℕ → Result Members ℕ
document_in text = or_refused 0 (table_of text)

-- what the table of a text says, or the number of the first key that is refused, 0 where there is no table
abbrev pub of_document : {Y : Type 0} → (Members → Result Y ℕ) → List ℕ → Result Y ℕ
of_document says text = document_in text >>= says

-- the configuration that a text says
unfoldable pub config_of : List ℕ → Result PlainConfig ℕ
config_of text = of_document config_in text

-- what the text says of a test certificate
unfoldable pub kit_of_text : List ℕ → Result PlainKit ℕ
kit_of_text text = of_document kit_in text

-- the plan of a terminal that a text says
unfoldable pub plan_of_text : List ℕ → Result PlainPlan ℕ
plan_of_text text = of_document plan_in text
