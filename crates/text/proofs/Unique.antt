-- Each public function's contract, as the source states it, allows one result and one buffer at the return.
use mathlib.Core.Path.{◌≡◌, sym, ap₂, ◌∙◌}
use mathlib.Core.List.{List}
use Prim.Native.Nat.{ℕ}
use contract.Lifetimes.{Lfts}
use borrow.Fn.Kinds.{Dens, res_t, ended_of}
use denote.Triple.Clauses.{AtExit}
use mir.Syntax.{w64}
use mir.Val.{Fits}
use Rattle.text.specs.declared.page.Page.{Page}
use Rattle.text.specs.Page.{Adds}
use Rattle.text.proofs.put_byte.Kinds as put-byte-kinds
use Rattle.text.proofs.put_byte.Reads as put_byte
use Rattle.text.proofs.put_bytes.Kinds as put-bytes-kinds
use Rattle.text.proofs.put_bytes.Reads as put-bytes
use Rattle.text.proofs.put_decimal.Kinds as put-decimal-kinds
use Rattle.text.proofs.put_decimal.Reads as put-decimal
use Rattle.text.proofs.put_signed.Kinds as put-signed-kinds
use Rattle.text.proofs.put_signed.Reads as put-signed
use Rattle.text.proofs.page.Page.new.Kinds as new-kinds
use Rattle.text.proofs.page.Page.new.Reads as new-reads
use Rattle.text.proofs.page.Page.text.Kinds as text-kinds
use Rattle.text.proofs.page.Page.text.Reads as text-reads
use Rattle.text.proofs.page.Page.words.Kinds as words-kinds
use Rattle.text.proofs.page.Page.words.Reads as words-reads
use Rattle.text.proofs.page.Page.number.Kinds as number-kinds
use Rattle.text.proofs.page.Page.number.Reads as number-reads
use Rattle.text.proofs.page.Page.signed.Kinds as signed-kinds
use Rattle.text.proofs.page.Page.signed.Reads as signed-reads
use Rattle.text.proofs.page.Page.labelled.Kinds as labelled-kinds
use Rattle.text.proofs.page.Page.labelled.Reads as labelled-reads
use Rattle.text.proofs.page.Page.end_line.Kinds as end-line-kinds
use Rattle.text.proofs.page.Page.end_line.Reads as end-line-reads

-- s and s' are the parameters at the return; the buffer is the first of them
module _ (κs : Lfts 1) (a : Dens κs put-byte-kinds.ps) (s s' : AtExit (ended_of 1 put-byte-kinds.ps put-byte-kinds.r) κs) where
  pub put_byte_unique : put_byte.Post κs a tt s → put_byte.Post κs a tt s' → s.0.now ≡ s'.0.now
  put_byte_unique p q = p ∙ sym q

module _ (κs : Lfts 2) (a : Dens κs put-bytes-kinds.ps) (s s' : AtExit (ended_of 2 put-bytes-kinds.ps put-bytes-kinds.r) κs) where
  pub put_bytes_unique : put-bytes.Post κs a tt s → put-bytes.Post κs a tt s' → s.0.now ≡ s'.0.now
  put_bytes_unique p q = p ∙ sym q

module _ (κs : Lfts 1) (a : Dens κs put-decimal-kinds.ps) (r r' : ℕ) (s s' : AtExit (ended_of 1 put-decimal-kinds.ps put-decimal-kinds.r) κs) where
  pub put_decimal_unique : put-decimal.Post κs a r s → put-decimal.Post κs a r' s' → (s.0.now ≡ s'.0.now) × (r ≡ r')
  put_decimal_unique p q = (p.0 ∙ sym q.0, p.1 ∙ sym q.1)

module _ (κs : Lfts 1) (a : Dens κs put-signed-kinds.ps) (r r' : ℕ) (s s' : AtExit (ended_of 1 put-signed-kinds.ps put-signed-kinds.r) κs) where
  pub put_signed_unique : put-signed.Post κs a r s → put-signed.Post κs a r' s' → (s.0.now ≡ s'.0.now) × (r ≡ r')
  put_signed_unique p q = (p.0 ∙ sym q.0, p.1 ∙ sym q.1)

-- What each method of a page that puts words on it states: one page has them.
pub adds_one : {n : ℕ} (old one other : Page n) (words : List ℕ) → Adds old one words → Adds old other words → one ≡ other
adds_one {n} old one other words p q =
    let page : List ℕ → ℕ → Page n = λ b l. record { bytes = b; len = l } in
    ap₂ page (p.bytes ∙ sym q.bytes) (p.len ∙ sym q.len)

-- of a page of any size N: the page that is begun, the text on it, and, of each method that puts words on it, the page at the return
module _ (N : ℕ) (fits : Fits w64 N) where
  module _ (κs : Lfts 1) (a : Dens κs (new-kinds.ps N fits)) (s s' : AtExit (ended_of 1 (new-kinds.ps N fits) (new-kinds.r N fits)) κs) where
    pub new_unique : (r r' : Page N) → new-reads.Post N fits κs a r s → new-reads.Post N fits κs a r' s' → r ≡ r'
    new_unique r r' p q = p ∙ sym q

  module _ (κs : Lfts 2) (a : Dens κs (text-kinds.ps N fits)) (r r' : (res_t (text-kinds.r N fits) κs).Denot) (s s' : AtExit (ended_of 2 (text-kinds.ps N fits) (text-kinds.r N fits)) κs) where
    pub text_unique : text-reads.Post N fits κs a r s → text-reads.Post N fits κs a r' s' → r.now ≡ r'.now
    text_unique p q = p ∙ sym q

  module _ (κs : Lfts 3) (a : Dens κs (words-kinds.ps N fits)) (s s' : AtExit (ended_of 3 (words-kinds.ps N fits) (words-kinds.r N fits)) κs) where
    pub words_unique : words-reads.Post N fits κs a tt s → words-reads.Post N fits κs a tt s' → s.0.now ≡ s'.0.now
    words_unique p q = adds_one a.0.now s.0.now s'.0.now _ p q

  module _ (κs : Lfts 2) (a : Dens κs (number-kinds.ps N fits)) (s s' : AtExit (ended_of 2 (number-kinds.ps N fits) (number-kinds.r N fits)) κs) where
    pub number_unique : number-reads.Post N fits κs a tt s → number-reads.Post N fits κs a tt s' → s.0.now ≡ s'.0.now
    number_unique p q = adds_one a.0.now s.0.now s'.0.now _ p q

  module _ (κs : Lfts 2) (a : Dens κs (signed-kinds.ps N fits)) (s s' : AtExit (ended_of 2 (signed-kinds.ps N fits) (signed-kinds.r N fits)) κs) where
    pub signed_unique : signed-reads.Post N fits κs a tt s → signed-reads.Post N fits κs a tt s' → s.0.now ≡ s'.0.now
    signed_unique p q = adds_one a.0.now s.0.now s'.0.now _ p q

  module _ (κs : Lfts 3) (a : Dens κs (labelled-kinds.ps N fits)) (s s' : AtExit (ended_of 3 (labelled-kinds.ps N fits) (labelled-kinds.r N fits)) κs) where
    pub labelled_unique : labelled-reads.Post N fits κs a tt s → labelled-reads.Post N fits κs a tt s' → s.0.now ≡ s'.0.now
    labelled_unique p q = adds_one a.0.now s.0.now s'.0.now _ p q

  module _ (κs : Lfts 2) (a : Dens κs (end-line-kinds.ps N fits)) (s s' : AtExit (ended_of 2 (end-line-kinds.ps N fits) (end-line-kinds.r N fits)) κs) where
    pub end_line_unique : end-line-reads.Post N fits κs a tt s → end-line-reads.Post N fits κs a tt s' → s.0.now ≡ s'.0.now
    end_line_unique p q = adds_one a.0.now s.0.now s'.0.now _ p q
