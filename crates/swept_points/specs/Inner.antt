-- How the code goes about it. No promise of the surface rests on these alone.
pub mod DeferredPayment
