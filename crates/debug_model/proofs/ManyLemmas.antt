-- Operations whose results are given beforehand, one after another.
use Rattle.std.proofs.Common.{◌≡◌, ◌++◌, ◌<◌, ℕ, length, List, [], ◌∷◌, Option, Some, refl, sym, subst, append_assoc, append-nil, arith}
use Rattle.debug_model.specs.declared.dmi_op.DmiOp.{DmiOp}
use Rattle.debug_model.specs.Dmi.{DmiComing, Results}
use Rattle.debug_model.specs.Many.{TakesOne, TookEach}

-- what is left to do completes what was done
pub record EachSoFar (ops : List DmiOp) (numbers : List ℕ) (left : List DmiOp) (results now : List ℕ) : Type 0 where
  pub completed : (more : List ℕ) (new : Option DmiComing) → TookEach left more now new → TookEach ops (results ++ more) numbers new

pub none_so_far : (ops : List DmiOp) (numbers results : List ℕ) → results ≡ [] → EachSoFar ops numbers ops results numbers
none_so_far ops numbers results none = record { completed = λ more new t. subst (λ xs. TookEach ops (xs ++ more) numbers new) (sym none) t }

pub one_more : (ops : List DmiOp) (numbers : List ℕ) (op : DmiOp) (left : List DmiOp) (value : ℕ) (results now next : List ℕ) → TakesOne op value now next
    → EachSoFar ops numbers (op ∷ left) results now
    → EachSoFar ops numbers left (results ++ value ∷ []) next
one_more ops numbers op left value results now next takes s = record {
  completed = λ more new t. subst (λ xs. TookEach ops xs numbers new) (sym (append_assoc results (value ∷ []) more))
      (s.completed (value ∷ more) new (value, more, next, refl, takes, t));
}

pub all_taken : (ops : List DmiOp) (numbers : List ℕ) (left : List DmiOp) (results now : List ℕ) → length left < 1 → EachSoFar ops numbers left results now
    → TookEach ops results numbers (Some (Results now))
all_taken ops numbers (op ∷ left) results now none s = absurd (omega arith)
all_taken ops numbers [] results now none s =
    subst (λ xs. TookEach ops xs numbers (Some (Results now))) (append-nil results) (s.completed [] (Some (Results now)) (refl, refl))
