-- Facts that a call asks for, beside what it is lent. Assumes nothing.
use seplogic.Ra.Ura.{Ura}
use base.Logic.{SProp, ent, sep, emp, via, emp∗, mono_l, comm∗}
use contract.Monad.{fact, fact_i}

module _ {M : Type 1} (𝓤 : Ura M) where
  -- what follows from nothing stands beside anything
  beside : {F : SProp 𝓤} (P : SProp 𝓤) → ent 𝓤 (emp 𝓤) F → ent 𝓤 P (sep 𝓤 P F)
  beside {F} P f = via 𝓤 (sep 𝓤 (emp 𝓤) P) (emp∗ 𝓤 P) (via 𝓤 (sep 𝓤 F P) (mono_l 𝓤 P f) (comm∗ 𝓤 F P))

  both : {F G : SProp 𝓤} → ent 𝓤 (emp 𝓤) F → ent 𝓤 (emp 𝓤) G → ent 𝓤 (emp 𝓤) (sep 𝓤 F G)
  both {F} {G} f g = via 𝓤 F f (beside F g)

  -- three facts
  pub three : {φ ψ χ : Type 0} → φ → ψ → χ → (P : SProp 𝓤) → ent 𝓤 P (sep 𝓤 P (sep 𝓤 (fact 𝓤 φ) (sep 𝓤 (fact 𝓤 ψ) (fact 𝓤 χ))))
  three {φ} {ψ} {χ} a b c P = beside P (both (fact_i 𝓤 φ (emp 𝓤) a) (both (fact_i 𝓤 ψ (emp 𝓤) b) (fact_i 𝓤 χ (emp 𝓤) c)))
