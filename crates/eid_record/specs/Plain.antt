-- The values that definitions speak of: those of the code, where each array and vector is the list of its items.
use Rattle.std.specs.Prelude.{ℕ, Bool, List, Option}

pub record PlainTrustPoint : Type 0 where
  pub name : List ℕ
  pub template : List ℕ
  pub key : List ℕ

pub record PlainRecord : Type 0 where
  pub number : ℕ
  pub tries : ℕ
  pub unblocks : ℕ
  pub active : Bool
  pub pin : List ℕ
  pub can : List ℕ
  pub puk : List ℕ
  pub date : List ℕ
  pub current : PlainTrustPoint
  pub previous : Option PlainTrustPoint
  pub ca_secret : List ℕ
  pub ri_secret : List ℕ
  pub lengths : List (Option ℕ)

-- what a commit may change
pub data PlainEffect : Type 0 where
  Spend : PlainEffect
  Refill : PlainEffect
  Unblock : (by_puk : Bool) → PlainEffect
  SetPin : (pin : List ℕ) → PlainEffect
  SetCan : (can : List ℕ) → PlainEffect
  Active : (active : Bool) → PlainEffect
  Advance : (date : List ℕ) (current : PlainTrustPoint) (previous : Option PlainTrustPoint) → PlainEffect
  Write : (file offset : ℕ) (bytes : List ℕ) → PlainEffect

-- a record with the bytes of its files, each by its number; an absent file is None
pub record FullRecord : Type 0 where
  pub fields : PlainRecord
  pub files : List (Option (List ℕ))
