-- What is answered where a text was read whole, or reading stopped.
use Rattle.std.proofs.Common.{◌≡◌, ◌⊎◌, inl, inr, ℕ, List, Ok, Err, Result, refl, ap}
use Rattle.std.specs.Prelude.{IsErrOf}
use Rattle.civl_cnf.specs.Literal.{Literal}
use Rattle.civl_cnf.specs.ClauseSet.{ClauseSet}
use Rattle.civl_proofs.specs.declared.fault.CertificateFault.{CertificateFault}
use Rattle.civl_proofs.specs.declared.fault.CertificateFault.TheVariants.{At, Memory}
use Rattle.civl_proofs.specs.Text.{IsCertificate, IsFirstFault}
use Rattle.civl_proofs.specs.inner.Reading.{Opening, Certificate, outcome, IsReadAs, IsStuck}
use Rattle.civl_proofs.proofs.Outcomes.{certificate_read, read_certificate, read_fault, one_answer, ok_once, made}

-- it stops just where it says
abbrev pub StopsAt : List ℕ → CertificateFault → Type 0
StopsAt text e = (b : ℕ) → e ≡ At b → IsStuck text b

err_once : {T : Type 0} (e f : CertificateFault) → IsErrOf {T = T} (Err e) f → e ≡ f
err_once e f h = cc (h)

pub fault_first : {T : Type 0} (text : List ℕ) (e : CertificateFault) → StopsAt text e → (b : ℕ) → IsErrOf {T = T} (Err e) (At b) → IsFirstFault text b
fault_first {T} text e stops b h = read_fault text b (stops b (err_once {T = T} e (At b) h)).is

ok_or_err : {A B : Type 0} (r : Result A B) (a : A) (b : B) → r ≡ Ok a → r ≡ Err b → ⊥
ok_or_err r a b e f = absurd (cc (e, f))

pub no_certificate : (text : List ℕ) (e : CertificateFault) → StopsAt text e → (set : ClauseSet) (log : List (List Literal)) → IsCertificate text set log → e ≡ Memory
no_certificate text Memory stops set log h = refl
no_certificate text (At b) stops set log h = absurd (ok_or_err (outcome text 0 Opening) (made set log) b (certificate_read text set log h) (stops b refl).is)

pub that_fault : {T : Type 0} (text : List ℕ) (e : CertificateFault) → StopsAt text e → (b : ℕ) → IsFirstFault text b → IsErrOf {T = T} (Err e) (At b) ⊎ IsErrOf {T = T} (Err e) Memory
that_fault text Memory stops b h = inr refl
that_fault text (At d) stops b h = inl (ap (λ (n : ℕ). Err (At n)) (one_answer.one_place text d b (read_fault text d (stops d refl).is) h))

-- what was read whole
pub certificate_found : (text : List ℕ) (c : Certificate) → IsReadAs text c → IsCertificate text c.set c.log
certificate_found text c h = read_certificate text c h.is

pub same_certificate : (text : List ℕ) (c : Certificate) → IsReadAs text c → (set : ClauseSet) (log : List (List Literal)) → IsCertificate text set log → (c.set ≡ set) × (c.log ≡ log)
same_certificate text c h set log k =
    let same = ok_once (outcome text 0 Opening) c (made set log) h.is (certificate_read text set log k) in
    (ap (λ (x : Certificate). x.set) same, ap (λ (x : Certificate). x.log) same)

pub no_fault : (text : List ℕ) (c : Certificate) → IsReadAs text c → (b : ℕ) → IsFirstFault text b → ⊥
no_fault text c h b f = one_answer.not_both text b (c.set, c.log, certificate_found text c h) f
