-- Replies of a test target that have not arrived (this project's own)
use Rattle.std.specs.Prelude.{◌≡◌, ℕ, ◌-◌, ◌<◌, List, [], ◌∷◌, Option, None, Some}
use Rattle.z_types.specs.declared.replies.Reply.{Reply}
use Rattle.gw_outside.specs.Wires.{IsReplyUnit}

-- a reply, its unit, and how many looks are to find nothing before it comes
pub record OwedReply : Type 0 where
  pub reply : Reply
  pub octets : List ℕ
  pub looks : ℕ

abbrev pub IsUnitOf : OwedReply → Type 0
IsUnitOf owed = IsReplyUnit owed.octets owed.reply

-- what a look finds of the replies that are owed: the first, once no look is to find nothing before
-- it; each other look is counted
abbrev pub IsNextOwed : List OwedReply → List OwedReply → Option OwedReply → Type 0
IsNextOwed [] new None = new ≡ []
IsNextOwed [] new (Some found) = ⊥
IsNextOwed (first ∷ rest) new None =
    (0 < first.looks) × (new ≡ record first { looks = first.looks - 1 } ∷ rest)
IsNextOwed (first ∷ rest) new (Some found) = (first.looks ≡ 0) × (found ≡ first) × (new ≡ rest)
