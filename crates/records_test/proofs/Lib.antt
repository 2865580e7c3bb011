-- The law behind the lists that are lent.

mod Fronts
