-- The keys of the configuration of a test certificate, as those of a configuration of an image. This project's own.
use Rattle.std.specs.Prelude.{ℕ, List, [], ◌∷◌, Option, None, Result, Ok, codes}
use Rattle.toml.specs.Data.{Members}
use Rattle.eid_record.specs.Reading.{◌>>=◌}
use Rattle.eid_perso.specs.Forms.{date, maybe, name, point, sized}
use Rattle.eid_perso.specs.Keys.{Key, optional, required, row}
use Rattle.eid_perso.specs.Kit.{PlainKit}

abbrev pub issuer_key : Key (List ℕ)
issuer_key = row 1 (codes "issuer") name

abbrev pub holder_key : Key (List ℕ)
holder_key = row 2 (codes "holder") name

abbrev pub key_key : Key (List ℕ)
key_key = row 3 (codes "key") point

abbrev pub template_key : Key (List ℕ)
template_key = row 4 (codes "template") (sized 5)

abbrev pub effective_key : Key (List ℕ)
effective_key = row 5 (codes "effective") date

abbrev pub expiry_key : Key (List ℕ)
expiry_key = row 6 (codes "expiry") date

abbrev pub sector1_key : Key (Option (List ℕ))
sector1_key = row 7 (codes "sector1") (maybe (sized 32))

abbrev pub sector2_key : Key (Option (List ℕ))
sector2_key = row 8 (codes "sector2") (maybe (sized 32))

abbrev pub signer_secret_key : Key (List ℕ)
signer_secret_key = row 9 (codes "signer_secret") (sized 32)

-- issuer, holder and key
unfoldable pub parties_in : Members → Result (List ℕ × List ℕ × List ℕ) ℕ
parties_in m = do
  issuer ← required issuer_key m
  holder ← required holder_key m
  key ← required key_key m
  Ok (issuer, holder, key)

-- template, effective date and expiration date
unfoldable pub rights_in : Members → Result (List ℕ × List ℕ × List ℕ) ℕ
rights_in m = do
  template ← required template_key m
  effective ← required effective_key m
  expiry ← required expiry_key m
  Ok (template, effective, expiry)

-- the hashes of the sector keys, each of which may be left out
unfoldable pub sectors_in : Members → Result (List (Option (List ℕ))) ℕ
sectors_in m = do
  first ← optional sector1_key None m
  second ← optional sector2_key None m
  Ok (first ∷ second ∷ [])

-- what the certificate says and its signer, or the number of the first key that is refused
unfoldable pub kit_in : Members → Result PlainKit ℕ
kit_in m = do
  parties ← parties_in m
  rights ← rights_in m
  sectors ← sectors_in m
  signer ← required signer_secret_key m
  Ok (record {
    body = record {
      issuer = parties.0;
      key = parties.2;
      holder = parties.1;
      template = rights.0;
      effective = rights.1;
      expiry = rights.2;
      sectors = sectors;
    };
    signer = signer;
  })
