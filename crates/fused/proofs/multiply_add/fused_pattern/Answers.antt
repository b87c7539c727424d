-- `fused::multiply_add::fused_pattern` meets its contract. Assumes nothing.
use Rattle.fused.proofs.multiply_add.Values.{product_leads, addend_leads}
use Rattle.fused.proofs.multiply_add.fused_pattern.Goals as goal

pub returns-then-product-addend : goal.returns-then-product-addend
returns-then-product-addend c =
    let a = c.args in
    let p = c.product_term-product.ensures in
    let q = c.addend_term-addend.ensures in
    addend_leads a.x a.y a.z c.requires.0 c.requires.1 c.requires.2 p.sign q.sign p.value q.value c.aligned_sum.result c.aligned_sum.ensures

pub returns-else-product-addend : goal.returns-else-product-addend
returns-else-product-addend c =
    let a = c.args in
    let p = c.product_term-product.ensures in
    let q = c.addend_term-addend.ensures in
    product_leads a.x a.y a.z c.requires.0 c.requires.1 c.requires.2 p.sign q.sign p.value q.value c.aligned_sum-else-product-addend.result c.aligned_sum-else-product-addend.ensures
